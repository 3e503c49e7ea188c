-- Sums of weights as the machine holds them in 64 bits: they fit, and read back as themselves. Cited by the functions that add weights up. Assumes nothing.
use mathlib.Core.Path.{◌≡◌, refl, ◌∙◌}
use Prim.Native.Nat.{ℕ, ◌+◌, ◌*◌, ◌^◌, ◌<◌, ◌≤◌}
use native.Mathlib.Nat.{lt_of_le_of_lt}
use native.Mathlib.Numerals.{add-one}
use native.Mathlib.Omega.{arith}
use lib.IntN.{ℤ, pos, nat_abs, neg_ℤ, ◌+ℤ◌, ◌-ℤ◌}
use lib.Signed.{mag}
use mir.Facts.{to_z-of_z}
use mir.Syntax.{w64}
use mir.Val.{SFits, to_z, of_z}
use Rattle.lists.proofs.TabLaws.{row_next}
use Rattle.integers.specs.Sums.{sum}
use Rattle.integers.proofs.Parts.{neg_parts, size_parts, add_size, mag_size}

pub back : {z : ℤ} → mag z < 2 ^ 63 → to_z w64 (of_z w64 z) ≡ z
back h = to_z-of_z {w = w64} (record { sfits = h })

wide_fits : (z : ℤ) → nat_abs z < 2 ^ 63 → SFits w64 z
wide_fits z h = record { sfits = lt_of_le_of_lt (mag_size z) h }

neg_size : (z : ℤ) → nat_abs (neg_ℤ z) ≡ nat_abs z
neg_size z = omega (arith, size_parts z, size_parts (neg_ℤ z), neg_parts z)

-- y and x are what the machine reads back for a and b
module _ {a b y x : ℤ} (ea : y ≡ a) (eb : x ≡ b) (ha : nat_abs a ≤ 2 ^ 62) (hb : nat_abs b ≤ 2 ^ 46) where
  pub add_fits : SFits w64 (y +ℤ x)
  add_fits = rw (ea, eb) (wide_fits (a +ℤ b) (omega (arith, add_size a b)))

  pub add_is : to_z w64 (of_z w64 (y +ℤ x)) ≡ a +ℤ b
  add_is = to_z-of_z add_fits ∙ rw (ea, eb) refl

  pub sub_fits : SFits w64 (y -ℤ x)
  sub_fits = rw (ea, eb) (wide_fits (a -ℤ b) (omega (arith, add_size a (neg_ℤ b), neg_size b)))

  pub sub_is : to_z w64 (of_z w64 (y -ℤ x)) ≡ a -ℤ b
  sub_is = to_z-of_z sub_fits ∙ rw (ea, eb) refl

-- no weight, and one more, in a total and in its bound
pub sum_none : (f : ℕ → ℤ) → pos 0 ≡ sum f 0
unfolding sum
sum_none f = refl

pub sum_more : (f : ℕ → ℤ) (k : ℕ) → sum f k +ℤ f k ≡ sum f (k + 1)
unfolding sum
sum_more f k = rw add-one

pub size_more : (t w : ℤ) (k : ℕ) → nat_abs t ≤ k * 2 ^ 31 → nat_abs w ≤ 2 ^ 31 → nat_abs (t +ℤ w) ≤ (k + 1) * 2 ^ 31
size_more t w k h l = omega (arith, add_size t w, row_next (k * 2 ^ 31) k (2 ^ 31) refl)
