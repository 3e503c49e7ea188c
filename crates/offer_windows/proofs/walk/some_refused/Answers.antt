-- `walk::some_refused`: a window that is refused is one of them. Assumes nothing.
use mathlib.Core.Path.{sym, ◌∙◌}
use native.Mathlib.Omega.{arith}
use lib.ListN.{length}
use Rattle.excesses.proofs.ExcessLaws.{some_any}
use Rattle.offer_windows.specs.Walks.{refused_in}
use Rattle.offer_windows.proofs.walk.some_refused.Goals as goal

pub returns-then-window_refused : goal.returns-then-window_refused
returns-then-window_refused g c =
    let a = c.args in
    let weight = g.W.Weight in
    let refused = refused_in a.limit a.p a.window (weight.values a.weights.now) (weight.values a.offered.now) a.sizes.now in
    record { answer = sym (some_any refused (length a.sizes.now) c.loop-i.i (omega arith) (sym c.window_refused.ensures.answer ∙ c.if-window_refused.true)) }
