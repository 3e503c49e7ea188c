-- After k weights every sum has k terms and a half, and its size is carried beside it: the argument of `row_u16`'s sixteen columns, at other places. Assumes nothing.
use mathlib.Core.Path.{◌≡◌}
use Prim.Native.Nat.{ℕ, ◌≤◌, ◌<◌, ◌*◌, ◌+◌}
use lib.IntN.{nat_abs}
use lib.Ieee.{nan}
use lib.ListN.{length, get_or}
use Rattle.vertical.specs.Column.{column_sum}
use Rattle.row_u16.specs.Chunks.{half_more}
use Rattle.row_u16.proofs.Exact.{most}
use Rattle.pixels_u16.specs.Places.{place_at}
use Rattle.pixels_u16.proofs.sums.sum_pixels.Given as goal

abbrev pub invariant-loop-w : goal.invariant-loop-w
invariant-loop-w l = (l.at ≡ l.at0 + l.w-index * l.components)
    × (length l.ss ≡ length l.initial.ss)
    × ((t : ℕ) → t < length l.initial.ss → get_or l.ss t nan ≡ half_more (column_sum l.ws l.src (place_at l.at0 l.components l.row t) l.components l.w-index))
    × ((t : ℕ) → t < length l.initial.ss → nat_abs (column_sum l.ws l.src (place_at l.at0 l.components l.row t) l.components l.w-index) ≤ l.w-index * most)
