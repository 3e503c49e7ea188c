-- The sides are judged by `windows`, the row by two comparisons. Assumes nothing.
use mathlib.Core.Bool.{not}
use mathlib.Core.Path.{ap}
use borrow.Author.Rules.{rules}
use Rattle.lists.proofs.BoolLaws.{asked_bad, asked_good}
use Rattle.lists.specs.Ranges.{bad_sides_value}
use Rattle.vertical.proofs.size_fits.Goals as goal

pub returns-then-not-sides_fit : goal.returns-then-not-sides_fit
returns-then-not-sides_fit c =
    let a = c.args in
    record { answer = rw (asked_bad (bad_sides_value a.frame.lines a.windows) c.sides_fit.ensures.answer (ap not c.if-not-sides_fit.true)) }

pub returns : goal.returns
returns c = record { answer = rw (asked_good (bad_sides_value c.args.frame.lines c.args.windows) c.sides_fit.ensures.answer (ap not c.if-not-sides_fit.false)) }
