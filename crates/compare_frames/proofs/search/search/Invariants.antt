-- `search::search` is safe and ends: a part a turn, each behind the one before and of a sample or more. Assumes nothing.
use Rattle.std.proofs.Common.{◌-◌, ◌≤◌, ◌≡◌, length}
use Rattle.compare_frames.proofs.search.search.Given as goal

abbrev pub invariant-loop-at : goal.invariant-loop-at
invariant-loop-at l = (l.at ≤ l.samples) × (length l.a ≡ length l.initial.a) × (length l.b ≡ length l.initial.b)

abbrev pub decreases-loop-at : goal.decreases-loop-at
decreases-loop-at l = l.samples - l.at
