-- `sums::total` meets its contract: after k weights `t` is the sum of k of them, and at most 2^31 for each. Assumes nothing.
use mathlib.Core.Path.{◌≡◌}
use Prim.Native.Nat.{◌^◌, ◌≤◌, ◌*◌}
use lib.IntN.{nat_abs}
use Rattle.integers.specs.Sums.{sum}
use Rattle.excesses.specs.Slots.{slot_from}
use Rattle.excesses.proofs.sums.total.Given as goal

abbrev pub invariant-loop-weight : goal.invariant-loop-weight
invariant-loop-weight g l = (l.weight-index ≤ l.n) × (l.t ≡ sum (slot_from (g.W.Weight.values l.weights) l.a) l.weight-index) × (nat_abs l.t ≤ l.weight-index * 2 ^ 31)
