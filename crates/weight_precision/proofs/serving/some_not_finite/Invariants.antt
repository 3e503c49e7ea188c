-- `some_not_finite`: after k turns `bad` says whether one of the first k weights is not finite. Assumes nothing.
use Rattle.std.proofs.Common.{◌≡◌, ◌≤◌, length}
use Rattle.lists.specs.Tab.{any}
use Rattle.weight_precision.specs.Weights.{not_finite_value}
use Rattle.weight_precision.proofs.serving.some_not_finite.Given as goal

abbrev pub invariant-loop-weight : goal.invariant-loop-weight
invariant-loop-weight l = (l.weight-index ≤ length l.weights) × (l.bad ≡ any l.weight-index (not_finite_value l.weights))
