-- The sides are judged first, then the set, then the precision. Assumes nothing.
use mathlib.Core.Bool.{not}
use mathlib.Core.Path.{ap}
use lib.ListN.{length}
use Rattle.lists.specs.Ranges.{bad_sides_value}
use Rattle.lists.proofs.BoolLaws.{asked_bad, asked_good}
use Rattle.windows.specs.Set.{layout_of}
use Rattle.windows.specs.Fit.{bad_set}
use Rattle.excesses.proofs.judge.shape_fits.Goals as goal

pub returns-then-not-sides_fit : goal.returns-then-not-sides_fit
returns-then-not-sides_fit c =
    let a = c.args in
    record { answer = rw (asked_bad (bad_sides_value a.lines (length a.starts.now)) c.sides_fit.ensures.answer (ap not c.if-not-sides_fit.true)) }

pub returns-then-not-set_fits : goal.returns-then-not-set_fits
returns-then-not-set_fits c =
    let a = c.args in
    record { answer = rw (asked_good (bad_sides_value a.lines (length a.starts.now)) c.sides_fit.ensures.answer (ap not c.if-not-sides_fit.false), asked_bad (bad_set (layout_of a.lines a.window_size a.starts.now a.sizes.now) a.slots) c.set_fits.ensures.answer (ap not c.if-not-set_fits.true)) }

pub returns : goal.returns
returns c =
    let a = c.args in
    record { answer = rw (asked_good (bad_sides_value a.lines (length a.starts.now)) c.sides_fit.ensures.answer (ap not c.if-not-sides_fit.false), asked_good (bad_set (layout_of a.lines a.window_size a.starts.now a.sizes.now) a.slots) c.set_fits.ensures.answer (ap not c.if-not-set_fits.false)) c.precision_fits.ensures.answer }
