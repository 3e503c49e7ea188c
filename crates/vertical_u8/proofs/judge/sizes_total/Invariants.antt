-- After k weights `total` is the sizes of k of them, and at most 32,768 for each. Assumes nothing.
use mathlib.Core.Path.{◌≡◌}
use Prim.Native.Nat.{◌^◌, ◌≤◌, ◌*◌}
use Rattle.vertical.specs.Column.{weight_at}
use Rattle.row_u8.specs.Sizes.{sizes_total_value}
use Rattle.vertical_u8.proofs.judge.sizes_total.Given as goal

abbrev pub invariant-loop-w : goal.invariant-loop-w
invariant-loop-w l = (l.total ≡ sizes_total_value (weight_at l.ws) l.w-index) × (l.total ≤ l.w-index * 2 ^ 15)
