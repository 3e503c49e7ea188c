-- The search for the point goes on from the place k (`first`). Assumes nothing.
use Rattle.std.proofs.Common.{◌≡◌, ◌-◌, ◌≤◌, length}
use Rattle.lists.specs.Tab.{first}
use Rattle.crop_edges.specs.Edge.{is_point, point_at_value}
use Rattle.crop_edges.proofs.decimal.point_at.Given as goal

abbrev pub invariant-loop-k : goal.invariant-loop-k
invariant-loop-k l = (l.k ≤ length l.text) × (point_at_value l.text ≡ first (is_point l.text) l.k (length l.text - l.k))
