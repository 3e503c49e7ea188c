-- The argument of `sums16` in integers, with a half more. Assumes nothing.
use mathlib.Core.Path.{◌≡◌}
use Prim.Native.Nat.{ℕ, ◌≤◌, ◌<◌, ◌*◌, ◌+◌}
use lib.IntN.{nat_abs}
use lib.Ieee.{nan}
use lib.ListN.{length, get_or}
use Rattle.vertical.specs.Column.{column_sum}
use Rattle.row_u16.specs.Chunks.{half_more}
use Rattle.row_u16.proofs.Exact.{most}
use Rattle.row_u16.proofs.doubles.sums16.Given as goal

abbrev pub invariant-loop-w : goal.invariant-loop-w
invariant-loop-w l = (l.at ≡ l.at0 + l.w-index * l.row)
    × (length l.ss ≡ 16)
    × ((t : ℕ) → t < 16 → get_or l.ss t nan ≡ half_more (column_sum l.ws l.src (l.at0 + t) l.row l.w-index))
    × ((t : ℕ) → t < 16 → nat_abs (column_sum l.ws l.src (l.at0 + t) l.row l.w-index) ≤ l.w-index * most)
