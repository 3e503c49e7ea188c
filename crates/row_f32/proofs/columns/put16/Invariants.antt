-- After t turns t samples stand behind column j, and none before it changed. Assumes nothing.
use mathlib.Core.Path.{◌≡◌}
use Prim.Native.Nat.{ℕ, ◌<◌, ◌+◌}
use lib.ListN.{length, get_or}
use lib.Ieee.{nan}
use Rattle.row_f32.proofs.columns.put16.Given as goal

abbrev pub invariant-loop-t : goal.invariant-loop-t
invariant-loop-t l = (length l.out ≡ length l.initial.out)
    × ((x : ℕ) → x < l.t → get_or l.out (l.j + x) nan ≡ get_or l.ys x nan)
    × ((x : ℕ) → x < l.j → get_or l.out x nan ≡ get_or l.initial.out x nan)
