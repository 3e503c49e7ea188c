-- `slots::replace` meets its contract: before turn k the first k slots are replaced, and slot k is as it was stored. Assumes nothing.
use Prim.Native.Nat.{◌≤◌}
use lib.ListN.{length}
use Rattle.lists.proofs.TabLaws.{Written}
use Rattle.offer_windows.specs.Walks.{replaced_in}
use Rattle.offer_windows.proofs.slots.replace.Given as goal

abbrev pub invariant-loop-k : goal.invariant-loop-k
invariant-loop-k g l =
    let weight = g.W.Weight in
    (l.k ≤ length l.initial.weights) × Written l.k (replaced_in l.window (weight.values l.initial.weights) (weight.values l.offered) l.sizes) (weight.values l.initial.weights) (weight.values l.weights)
