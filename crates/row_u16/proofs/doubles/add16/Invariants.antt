-- After t turns the first t sums have the line's term, the others are as they were. Assumes nothing.
use mathlib.Core.Path.{◌≡◌}
use Prim.Native.Nat.{ℕ, ◌≤◌, ◌<◌, ◌+◌}
use lib.IntN.{pos}
use lib.Ieee.{binary64, nan, add, mul, of_int}
use lib.ListN.{length, get_or}
use Rattle.row_u16.proofs.doubles.add16.Given as goal

abbrev pub invariant-loop-t : goal.invariant-loop-t
invariant-loop-t l = (length l.r ≡ 16)
    × ((x : ℕ) → x < l.t → get_or l.r x nan ≡ add binary64 (get_or l.initial.r x nan) (mul binary64 (of_int binary64 (pos (get_or l.src (l.at + x) 0))) l.w))
    × ((x : ℕ) → l.t ≤ x → get_or l.r x nan ≡ get_or l.initial.r x nan)
