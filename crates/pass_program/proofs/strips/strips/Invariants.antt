-- `strips::strips` is safe and ends: a strip a turn, each behind the one before and of a column or more. Assumes nothing.
use Rattle.std.proofs.Common.{◌-◌, ◌≤◌, ◌≡◌, length}
use Rattle.pass_program.proofs.strips.strips.Given as goal

abbrev pub invariant-loop-at : goal.invariant-loop-at
invariant-loop-at g l = (l.at ≤ l.p.count) × (length l.bytes ≡ length l.initial.bytes) × (length l.samples ≡ length l.initial.samples) × (length l.out ≡ length l.initial.out)

abbrev pub decreases-loop-at : goal.decreases-loop-at
decreases-loop-at g l = l.p.count - l.at
