-- After t turns the first t sums have line k, the others are as they were. Assumes nothing.
use mathlib.Core.Path.{◌≡◌}
use Prim.Native.Nat.{ℕ, ◌≤◌, ◌<◌, ◌+◌}
use lib.ListN.{length, get_or}
use lib.Ieee.{nan}
use Rattle.row_f32.specs.Column.{column_sum}
use Rattle.row_f32.proofs.sums.add16.Given as goal

abbrev pub invariant-loop-t : goal.invariant-loop-t
invariant-loop-t l = (length l.r ≡ 16)
    × ((x : ℕ) → x < l.t → get_or l.r x nan ≡ column_sum l.ws l.src (l.at0 + x) l.row (l.k + 1))
    × ((x : ℕ) → l.t ≤ x → get_or l.r x nan ≡ get_or l.initial.r x nan)
