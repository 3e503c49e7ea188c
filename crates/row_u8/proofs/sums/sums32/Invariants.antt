-- The argument of `sum`, thirty-two columns side by side. Assumes nothing.
use mathlib.Core.Path.{◌≡◌}
use Prim.Native.Nat.{ℕ, ◌≤◌, ◌<◌, ◌*◌, ◌+◌}
use lib.IntN.{pos, nat_abs, ◌+ℤ◌}
use lib.ListN.{length, get_or}
use Rattle.vertical.specs.Column.{weight_at, column_sum}
use Rattle.row_u8.specs.Sizes.{sizes_total_value}
use Rattle.row_u8.proofs.sums.sums32.Given as goal

abbrev pub invariant-loop-w : goal.invariant-loop-w
invariant-loop-w l = (l.at ≡ l.at0 + l.w-index * l.row)
    × (length l.ss ≡ 32)
    × ((t : ℕ) → t < 32 → get_or l.ss t (pos 0) ≡ l.init +ℤ column_sum l.ws l.src (l.at0 + t) l.row l.w-index)
    × ((t : ℕ) → t < 32 → nat_abs (get_or l.ss t (pos 0)) ≤ nat_abs (l.init) + 255 * sizes_total_value (weight_at l.ws) l.w-index)
