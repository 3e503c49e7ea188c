-- After j turns every column from `from` to j has its value, and none before it changed. Assumes nothing.
use mathlib.Core.Path.{◌≡◌}
use Prim.Native.Nat.{ℕ, ◌≤◌, ◌<◌, ◌+◌}
use lib.ListN.{length, get_or}
use lib.Ieee.{nan}
use Rattle.row_f32.specs.Column.{column_value}
use Rattle.row_f32.proofs.columns.tail.Given as goal

abbrev pub invariant-loop-j : goal.invariant-loop-j
invariant-loop-j l = (length l.out ≡ length l.initial.out)
    × ((x : ℕ) → l.from ≤ x → x < l.j → get_or l.out x nan ≡ column_value l.ws l.src (l.at0 + x) l.row (length l.ws))
    × ((x : ℕ) → x < l.from → get_or l.out x nan ≡ get_or l.initial.out x nan)
