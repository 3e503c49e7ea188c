-- `some_outside`: after k turns `bad` says whether one of the first k weights is outside. Assumes nothing.
use Rattle.std.proofs.Common.{◌≡◌, ◌≤◌, length}
use Rattle.lists.specs.Tab.{any}
use Rattle.weight_precision.specs.Bounds.{outside}
use Rattle.weight_precision.proofs.serving.some_outside.Given as goal

abbrev pub invariant-loop-weight : goal.invariant-loop-weight
invariant-loop-weight l = (l.weight-index ≤ length l.weights) × (l.bad ≡ any l.weight-index (outside l.low l.high l.unit l.weights))
