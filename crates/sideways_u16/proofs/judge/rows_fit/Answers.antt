-- A first row or a count past the rows is refused before it is multiplied: the exchanged columns would end past their row. Assumes nothing.
use mathlib.Core.Path.{sym, ap}
use mathlib.Core.Bool.{not}
use Prim.Native.Nat.{◌/◌, ◌≤◌}
use native.Mathlib.Omega.{arith}
use Rattle.sideways_u16.proofs.JudgeLaws.{times_small, past_first, past_count}
use Rattle.sideways_u16.proofs.judge.rows_fit.Goals as goal

pub returns-then-frame : goal.returns-then-frame
returns-then-frame c =
    let s = c.args in
    let a = s.frame in
    sym (ap not (past_first (a.row / a.components) s.windows s.samples a.rows a.components a.first a.count s.room c.requires.0 c.if-frame.true))

pub returns-then-frame-2 : goal.returns-then-frame-2
returns-then-frame-2 c =
    let s = c.args in
    let a = s.frame in
    sym (ap not (past_count (a.row / a.components) s.windows s.samples a.rows a.components a.first a.count s.room c.requires.0 c.if-frame-2.true))

pub overflow_mul-turned : goal.overflow_mul-turned
overflow_mul-turned c =
    omega (arith, times_small c.args.frame.rows c.args.frame.components c.requires.2 c.requires.1)

pub overflow_mul-turned-2 : goal.overflow_mul-turned-2
overflow_mul-turned-2 c =
    let a = c.args.frame in
    let l : a.first ≤ 32768 = omega (arith, c.requires.2, c.if-frame.false) in
    omega (arith, times_small a.first a.components l c.requires.1)

pub overflow_mul-turned-3 : goal.overflow_mul-turned-3
overflow_mul-turned-3 c =
    let a = c.args.frame in
    let l : a.count ≤ 32768 = omega (arith, c.requires.2, c.if-frame-2.false) in
    omega (arith, times_small a.count a.components l c.requires.1)
