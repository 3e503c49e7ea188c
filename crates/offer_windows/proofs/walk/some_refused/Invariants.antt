-- `walk::some_refused` meets its contract: before turn i each of the first i windows is repaired. Assumes nothing.
use mathlib.Core.Path.{◌≡◌}
use mathlib.Core.Bool.{false}
use Prim.Native.Nat.{◌≤◌}
use lib.ListN.{length}
use Rattle.lists.specs.Tab.{any}
use Rattle.offer_windows.specs.Walks.{refused_in}
use Rattle.offer_windows.proofs.walk.some_refused.Given as goal

abbrev pub invariant-loop-i : goal.invariant-loop-i
invariant-loop-i g l =
    let weight = g.W.Weight in
    (l.i ≤ length l.sizes) × (any l.i (refused_in l.limit l.p l.window (weight.values l.weights) (weight.values l.offered) l.sizes) ≡ false)
