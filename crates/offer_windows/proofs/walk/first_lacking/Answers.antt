-- `walk::first_lacking`: the goals that the check leaves; the argument stands in Invariants.antt. Assumes nothing.
use mathlib.Core.Path.{◌≡◌, refl, sym, ◌∙◌}
use Prim.Native.Nat.{◌+◌, ◌-◌}
use native.Mathlib.Omega.{arith}
use lib.IntN.{pos}
use lib.ListN.{length, get_or}
use mir.Facts.{to_z-of_z}
use mir.Syntax.{w64}
use Rattle.lists.proofs.FirstLaws.{first_stop, first_on}
use Rattle.offer_windows.specs.Walks.{lacking_in}
use Rattle.offer_windows.proofs.walk.first_lacking.Goals as goal

pub returns-then-window_lacks : goal.returns-then-window_lacks
returns-then-window_lacks g c =
    let a = c.args in
    let i = c.loop-i.i in
    let lacking = lacking_in a.limit a.window (g.W.Weight.values a.weights.now) a.sizes.now a.excesses.now in
    let read = to_z-of_z {w = w64} {z = get_or a.excesses.now i (pos 0)} (record { sfits = c.window_lacks-arg-1.given }) in
    let said : c.window_lacks.result ≡ lacking i = c.window_lacks.ensures.answer ∙ rw read refl in
    record { answer = sym (c.loop-i.invariant.1 ∙ first_stop lacking i (length a.sizes.now - i) (omega arith) (sym said ∙ c.if-window_lacks.true)) }

pub loop-i-preserved : goal.loop-i-preserved
loop-i-preserved g c =
    let a = c.args in
    let i = c.loop-i.i in
    let n = length a.sizes.now in
    let lacking = lacking_in a.limit a.window (g.W.Weight.values a.weights.now) a.sizes.now a.excesses.now in
    let read = to_z-of_z {w = w64} {z = get_or a.excesses.now i (pos 0)} (record { sfits = c.window_lacks-arg-1.given }) in
    let said : c.window_lacks.result ≡ lacking i = c.window_lacks.ensures.answer ∙ rw read refl in
    let left : n - i - 1 ≡ n - (i + 1) = omega arith in
    (omega arith, c.loop-i.invariant.1 ∙ first_on lacking i (n - i) (omega arith) (sym said ∙ c.if-window_lacks.false) ∙ rw left refl)
