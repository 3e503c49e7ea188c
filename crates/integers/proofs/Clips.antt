-- The clip, by the two tests that code makes. Cited by `clip8`. Assumes nothing.
use mathlib.Core.Path.{◌≡◌, refl, sym}
use mathlib.Core.Bool.{true, false}
use Prim.Native.Nat.{ℕ, ◌≤◌, ◌<◌}
use native.Mathlib.Omega.{arith}
use lib.IntN.{ℤ, pos, negsuc}
use lib.Signed.{lt_z}
use borrow.Author.Tests.{ltb-true, ltb-false}
use Rattle.lists.proofs.BoolLaws.{never}
use Rattle.integers.specs.Sums.{clipped}

-- below a number that is not above 0
pub clipped_low : (M : ℕ) (z b : ℤ) → lt_z (pos 0) b ≡ false → lt_z z b ≡ true → clipped M z ≡ 0
unfolding clipped
clipped_low M (pos n) (pos m) h k = let l : n < m = ltb-true n m k in let g : m ≤ 0 = ltb-false 0 m h in absurd (omega arith)
clipped_low M (pos n) (negsuc m) h k = never (sym k)
clipped_low M (negsuc n) b h k = refl

-- above a number that is at least M
pub clipped_high : (M m : ℕ) (z : ℤ) → M ≤ m → lt_z (pos m) z ≡ true → clipped M z ≡ M
unfolding clipped
clipped_high M m (pos n) h k = let l : m < n = ltb-true m n k in omega arith
clipped_high M m (negsuc n) h k = never (sym k)
