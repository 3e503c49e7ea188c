-- After i windows each of their rows stands in its place, and lanes that are zeros tell that each of their samples is finite; `there_here` and `summable_here` say that
-- all of the next one's numbers are there and small. Assumes nothing.
use mathlib.Core.Path.{◌≡◌}
use Prim.Native.Nat.{ℕ, ◌<◌, ◌*◌, ◌+◌, ◌^◌}
use lib.ListN.{length, get_or}
use lib.Dec.{T}
use lib.Ieee.{nan}
use Rattle.finite_f32.specs.Scan.{is_zero_value, flag, Zeros, Flags}
use Rattle.floats.specs.Within.{AtMost}
use Rattle.row_f32.specs.Column.{window_value}
use Rattle.vertical_f32.proofs.rows.rows.Given as goal

abbrev pub invariant-loop-i : goal.invariant-loop-i
invariant-loop-i l = (length l.out ≡ length l.initial.out)
    × ((x : ℕ) → x < l.i → (j : ℕ) → j < l.count → get_or l.out (x * l.count + j) nan ≡ window_value l.src l.row l.first l.starts l.sizes l.window l.weights x j)
    × (length l.zz ≡ 4)
    × Flags 4 l.zz
    × T (flag l.z)
    × (Zeros 4 l.zz → T (is_zero_value l.z) → (x : ℕ) → x < l.i → (j : ℕ) → j < l.count → AtMost (window_value l.src l.row l.first l.starts l.sizes l.window l.weights x j) (2 ^ 128))
