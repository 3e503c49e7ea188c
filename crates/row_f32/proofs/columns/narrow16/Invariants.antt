-- After t turns t samples are made. Assumes nothing.
use mathlib.Core.Path.{◌≡◌}
use Prim.Native.Nat.{ℕ, ◌<◌}
use lib.ListN.{length, get_or}
use lib.Ieee.{nan}
use Rattle.numbers.specs.Whole.{narrow}
use Rattle.row_f32.proofs.columns.narrow16.Given as goal

abbrev pub invariant-loop-t : goal.invariant-loop-t
invariant-loop-t l = (length l.ys ≡ 16) × ((x : ℕ) → x < l.t → get_or l.ys x nan ≡ narrow (get_or l.ss x nan))
