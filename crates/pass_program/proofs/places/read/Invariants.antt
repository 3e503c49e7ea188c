-- `places::read` is safe and ends: a row a turn, each behind the one before and inside the list. Assumes nothing.
use Rattle.std.proofs.Common.{◌≤◌, ◌≡◌, length}
use Rattle.pass_program.proofs.places.read.Given as goal

abbrev pub invariant-loop-i : goal.invariant-loop-i
invariant-loop-i l = (l.a ≤ length l.initial.bytes) × (length l.bytes ≡ length l.initial.bytes)
