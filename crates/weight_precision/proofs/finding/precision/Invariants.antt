-- `precision`: at p none of the precisions before it reached 2^limit, so the search is what is left from p on. Assumes nothing.
use Rattle.std.proofs.Common.{◌≡◌, ◌+◌, ◌-◌, ◌≤◌}
use Rattle.lists.specs.Tab.{first}
use Rattle.weight_precision.specs.Precision.{precision, reaches}
use Rattle.weight_precision.proofs.finding.precision.Given as goal

abbrev pub invariant-loop-p : goal.invariant-loop-p
invariant-loop-p l = (l.p + 1 ≤ l.store.bits) × (precision l.store l.weights ≡ first (reaches l.store.limit l.w) l.p (l.store.bits - 1 - l.p))
