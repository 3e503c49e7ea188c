-- `judge::some_differ` meets its contract: before turn i, none of the first i windows has another excess. Assumes nothing.
use mathlib.Core.Path.{◌≡◌}
use mathlib.Core.Bool.{false}
use Prim.Native.Nat.{◌≤◌}
use lib.ListN.{length}
use Rattle.lists.specs.Tab.{any}
use Rattle.excesses.specs.Slots.{differs_in}
use Rattle.excesses.proofs.judge.some_differ.Given as goal

abbrev pub invariant-loop-i : goal.invariant-loop-i
invariant-loop-i g l = (l.i ≤ length l.sizes) × (any l.i (differs_in l.p l.window (g.W.Weight.values l.weights) l.sizes l.excesses) ≡ false)
