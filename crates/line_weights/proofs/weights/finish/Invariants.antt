-- `finish` meets its contract: the loop has shared out the first k slots, and the slot in hand is still the old one (`front_past`). Assumes nothing.
use Prim.Native.Nat.{◌≤◌}
use lib.ListN.{length}
use Rattle.lists.proofs.TabLaws.{Written}
use Rattle.line_weights.specs.Weights.{share_at}
use Rattle.line_weights.proofs.weights.finish.Given as goal

abbrev pub invariant-loop-k : goal.invariant-loop-k
invariant-loop-k l = (l.k ≤ length l.initial.row) × Written l.k (share_at l.n l.total l.initial.row) l.initial.row l.row
