-- `walk::first_lacking` meets its contract: the search that is left from window i on finds what the search from the first one finds. Assumes nothing.
use mathlib.Core.Path.{◌≡◌}
use Prim.Native.Nat.{◌-◌, ◌≤◌}
use lib.ListN.{length}
use Rattle.lists.specs.Tab.{first}
use Rattle.offer_windows.specs.Walks.{lacking_in}
use Rattle.offer_windows.proofs.walk.first_lacking.Given as goal

abbrev pub invariant-loop-i : goal.invariant-loop-i
invariant-loop-i g l =
    let lacking = lacking_in l.limit l.window (g.W.Weight.values l.weights) l.sizes l.excesses in
    (l.i ≤ length l.sizes) × (first lacking 0 (length l.sizes) ≡ first lacking l.i (length l.sizes - l.i))
