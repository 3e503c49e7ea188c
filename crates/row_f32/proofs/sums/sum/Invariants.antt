-- After k lines the sum is that of the first k terms, in their order. Assumes nothing.
use mathlib.Core.Path.{◌≡◌}
use Prim.Native.Nat.{◌*◌, ◌+◌}
use Rattle.row_f32.specs.Column.{column_sum}
use Rattle.row_f32.proofs.sums.sum.Given as goal

abbrev pub invariant-loop-w : goal.invariant-loop-w
invariant-loop-w l = (l.at ≡ l.at0 + l.w-index * l.row) × (l.acc ≡ column_sum l.ws l.src l.at0 l.row l.w-index)
