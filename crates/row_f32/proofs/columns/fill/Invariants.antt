-- After sixteen columns a turn each has its value, and lanes that are zeros tell that each is finite: a chunk more, and then the tail. Assumes nothing.
use mathlib.Core.Path.{◌≡◌}
use Prim.Native.Nat.{ℕ, ◌^◌, ◌<◌, ◌+◌, ◌*◌}
use lib.ListN.{length, get_or}
use lib.Ieee.{nan}
use Rattle.floats.specs.Within.{AtMost}
use Rattle.finite_f32.specs.Scan.{Zeros, Flags}
use Rattle.row_f32.specs.Column.{column_value}
use Rattle.row_f32.proofs.columns.fill.Given as goal

abbrev pub invariant-loop-q : goal.invariant-loop-q
invariant-loop-q l = (length l.out ≡ length l.initial.out)
    × ((x : ℕ) → x < l.q * 16 → get_or l.out x nan ≡ column_value l.ws l.src (l.at0 + x) l.row (length l.ws))
    × (length l.zz ≡ 4)
    × Flags 4 l.zz
    × (Zeros 4 l.zz → Zeros 4 l.initial.zz)
    × (Zeros 4 l.zz → (x : ℕ) → x < l.q * 16 → AtMost (column_value l.ws l.src (l.at0 + x) l.row (length l.ws)) (2 ^ 128))
