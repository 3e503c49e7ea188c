-- More than 32,768 rows are refused before they are multiplied: the exchanged frame's row would be longer. Assumes nothing.
use mathlib.Core.Path.{sym, ap}
use mathlib.Core.Bool.{not}
use Prim.Native.Nat.{◌/◌}
use native.Mathlib.Omega.{arith}
use Rattle.lists.proofs.BoolLaws.{asked_bad, asked_good}
use Rattle.sideways.specs.Sideways.{bad_pixels}
use Rattle.sideways.proofs.Answers.{pixels_fit}
use Rattle.sideways_u16.proofs.JudgeLaws.{many_rows, times_small}
use Rattle.sideways_u16.proofs.judge.sizes_fit.Goals as goal

pub returns-then-not-pixels_fit : goal.returns-then-not-pixels_fit
returns-then-not-pixels_fit c =
    let a = c.args.frame in
    rw (asked_bad (bad_pixels a.components a.row) c.pixels_fit.ensures (ap not c.if-not-pixels_fit.true))

pub returns-then-frame-gt32768 : goal.returns-then-frame-gt32768
returns-then-frame-gt32768 c =
    let s = c.args in
    let a = s.frame in
    let p = pixels_fit a.components a.row (asked_good (bad_pixels a.components a.row) c.pixels_fit.ensures (ap not c.if-not-pixels_fit.false)) in
    sym (ap not (many_rows a.components a.row a.rows (a.row / a.components) s.windows p.few.least c.if-frame-gt32768.true))

pub nonzero_div-turned : goal.nonzero_div-turned
nonzero_div-turned c =
    let a = c.args.frame in
    omega (arith, (pixels_fit a.components a.row (asked_good (bad_pixels a.components a.row) c.pixels_fit.ensures (ap not c.if-not-pixels_fit.false))).few)

pub overflow_mul-turned : goal.overflow_mul-turned
overflow_mul-turned c =
    let a = c.args.frame in
    let p = pixels_fit a.components a.row (asked_good (bad_pixels a.components a.row) c.pixels_fit.ensures (ap not c.if-not-pixels_fit.false)) in
    omega (arith, times_small a.rows a.components c.if-frame-gt32768.false p.few.most)

pub returns : goal.returns
returns c =
    let a = c.args.frame in
    rw (asked_good (bad_pixels a.components a.row) c.pixels_fit.ensures (ap not c.if-not-pixels_fit.false)) c.size_fits.ensures.answer
