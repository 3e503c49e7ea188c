-- `some_leaves`: after k turns `bad` says whether one of the first k slots holds a weight in use that leaves its type. Assumes nothing.
use Rattle.std.proofs.Common.{◌≡◌, ◌≤◌, length}
use Rattle.lists.specs.Tab.{any}
use Rattle.weight_precision.specs.Weights.{leaves}
use Rattle.weight_precision.proofs.serving.some_leaves.Given as goal

abbrev pub invariant-loop-k : goal.invariant-loop-k
invariant-loop-k l = (l.k ≤ length l.weights) × (l.bad ≡ any l.k (leaves l.store l.p l.window_size l.weights l.sizes))
