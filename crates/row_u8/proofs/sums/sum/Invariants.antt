-- After k lines the sum is that of k terms, and in size at most its start and 255 times the sizes of k weights: the bound is carried beside the sum. Assumes nothing.
use mathlib.Core.Path.{◌≡◌}
use Prim.Native.Nat.{◌≤◌, ◌*◌, ◌+◌}
use lib.IntN.{nat_abs, ◌+ℤ◌}
use Rattle.vertical.specs.Column.{weight_at, column_sum}
use Rattle.row_u8.specs.Sizes.{sizes_total_value}
use Rattle.row_u8.proofs.sums.sum.Given as goal

abbrev pub invariant-loop-w : goal.invariant-loop-w
invariant-loop-w l = (l.at ≡ l.at0 + l.w-index * l.row)
    × (l.acc ≡ l.init +ℤ column_sum l.ws l.src l.at0 l.row l.w-index)
    × (nat_abs (l.acc) ≤ nat_abs (l.init) + 255 * sizes_total_value (weight_at l.ws) l.w-index)
