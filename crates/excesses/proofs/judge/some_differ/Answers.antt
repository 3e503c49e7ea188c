-- `judge::some_differ`: a window whose excess is another is one that differs. Assumes nothing.
use mathlib.Core.Path.{sym, ap, ◌∙◌}
use native.Mathlib.Omega.{arith}
use lib.IntN.{pos}
use lib.ListN.{length, get_or}
use mir.Syntax.{w64}
use mir.Val.{of_z}
use Rattle.excesses.specs.Slots.{excess_in, differs_in}
use Rattle.excesses.proofs.ExcessLaws.{some_any}
use Rattle.excesses.proofs.RightLaws.{differ_other}
use Rattle.excesses.proofs.judge.some_differ.Goals as goal

pub returns-then-excess_of-excesses : goal.returns-then-excess_of-excesses
returns-then-excess_of-excesses g c =
    let a = c.args in
    let i = c.loop-i.i in
    let ws = g.W.Weight.values a.weights.now in
    let other = differ_other (excess_in a.p a.window ws a.sizes.now i) (get_or a.excesses.now i (pos 0)) (λ e. c.if-excess_of-excesses.true (ap (of_z w64) (c.excess_of.ensures.answer ∙ e))) in
    record { answer = sym (some_any (differs_in a.p a.window ws a.sizes.now a.excesses.now) (length a.sizes.now) i (omega arith) other) }
