-- `largest`: after k turns `best` is the largest of the first k weights; `larger` is one turn more. Assumes nothing.
use Rattle.std.proofs.Common.{◌≡◌, ◌≤◌, length, get_or}
use lib.Ieee.{nan}
use Rattle.lists.specs.Tab.{turns}
use Rattle.floats.specs.Doubles.{zero64}
use Rattle.weight_precision.specs.Precision.{larger}
use Rattle.weight_precision.proofs.finding.largest.Given as goal

abbrev pub invariant-loop-weight : goal.invariant-loop-weight
invariant-loop-weight l = (l.weight-index ≤ length l.weights) × (l.best ≡ turns (λ x k. larger x (get_or l.weights k nan)) (get_or l.weights 0 zero64) l.weight-index)
