-- A weight of 0 adds nothing; of another, after t turns the first t sums have the line's term and the others are as they were. Assumes nothing.
use mathlib.Core.Path.{◌≡◌}
use Prim.Native.Nat.{ℕ, ◌≤◌, ◌<◌, ◌+◌}
use lib.IntN.{pos, ◌+ℤ◌, ◌*ℤ◌}
use lib.ListN.{length, get_or}
use Rattle.row_u8.proofs.sums.add32.Given as goal

abbrev pub invariant-loop-t : goal.invariant-loop-t
invariant-loop-t l = (length l.r ≡ 32)
    × ((x : ℕ) → x < l.t → get_or l.r x (pos 0) ≡ get_or l.initial.r x (pos 0) +ℤ l.w *ℤ pos (get_or l.src (l.at + x) 0))
    × ((x : ℕ) → l.t ≤ x → get_or l.r x (pos 0) ≡ get_or l.initial.r x (pos 0))
