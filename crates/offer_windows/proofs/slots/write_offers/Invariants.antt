-- `slots::write_offers` meets its contract: before turn i the slots of the first i windows are written. Assumes nothing.
use Prim.Native.Nat.{◌*◌, ◌≤◌}
use lib.ListN.{length}
use Rattle.lists.specs.Tab.{grid}
use Rattle.lists.proofs.TabLaws.{Written}
use Rattle.offer_windows.specs.Walks.{offered_in}
use Rattle.offer_windows.proofs.slots.write_offers.Given as goal

abbrev pub invariant-loop-i : goal.invariant-loop-i
invariant-loop-i g l =
    let weight = g.W.Weight in
    (l.i ≤ length l.sizes) × Written (l.i * l.window) (grid l.window (offered_in weight.STORE.limit l.window (weight.values l.weights) l.sizes l.excesses)) (weight.values l.initial.out) (weight.values l.out)
