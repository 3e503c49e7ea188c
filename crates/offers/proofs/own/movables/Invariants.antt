-- `own::movables` meets its contract: after k weights `c` is the count of those that can go. Assumes nothing.
use mathlib.Core.Path.{◌≡◌}
use Prim.Native.Nat.{◌≤◌}
use Rattle.orders.specs.Count.{count}
use Rattle.excesses.specs.Slots.{slot_from}
use Rattle.offers.specs.Own.{movable}
use Rattle.offers.proofs.own.movables.Given as goal

abbrev pub invariant-loop-weight : goal.invariant-loop-weight
invariant-loop-weight g l = (l.weight-index ≤ l.n) × (l.c ≡ count (movable l.limit l.e (slot_from (g.W.Weight.values l.weights) l.a)) l.weight-index)
