-- The steps of a clip to 0 .. M: 0 below, M above, the number itself between. y is what the machine reads back for z.
-- Cited by the clips that compare, `clip16` and `clamp8`, and their parts. Assumes nothing.
use mathlib.Core.Path.{◌≡◌, refl, sym, ap, ◌∙◌}
use mathlib.Core.Bool.{true, false}
use Prim.Native.Nat.{ℕ, ◌≤◌}
use native.Mathlib.Nat.{le_refl}
use native.Mathlib.Omega.{arith}
use lib.Dec.{T}
use lib.IntN.{ℤ, pos, negsuc, nat_abs}
use lib.Signed.{lt_z, non_neg}
use mir.Syntax.{Width, w8, w16}
use mir.Val.{Fits}
use borrow.Author.Tests.{ltb-true, ltb-false}
use Rattle.lists.proofs.BoolLaws.{never}
use Rattle.integers.specs.Sums.{clipped}
use Rattle.integers.proofs.Clips.{clipped_high}
use Rattle.clips.specs.Table.{natural}

below : (z : ℤ) → lt_z z (pos 0) ≡ true → pos 0 ≡ pos (natural z)
unfolding natural
below (pos n) h = absurd (omega (arith, ltb-true n 0 h))
below (negsuc n) h = refl

not_below : (z : ℤ) → lt_z z (pos 0) ≡ false → z ≡ pos (natural z)
unfolding natural
not_below (pos n) h = refl
not_below (negsuc n) h = never h

not_above : (M : ℕ) (z : ℤ) → lt_z (pos M) z ≡ false → z ≡ pos (natural z) → nat_abs z ≡ clipped M z
unfolding natural clipped
not_above M (pos n) h e = omega (arith, ltb-false M n h)
not_above M (negsuc n) h e = never (sym (ap non_neg e))

inside : (M : ℕ) (w : Width) → ((n : ℕ) → n ≤ M → Fits w n) → (z : ℤ) → lt_z (pos M) z ≡ false → z ≡ pos (natural z) → T (non_neg z) × Fits w (nat_abs z)
unfolding natural
inside M w f (pos n) h e = (tt, f n (ltb-false M n h))
inside M w f (negsuc n) h e = never (sym (ap non_neg e))

-- the largest samples are those of their types
pub fits16 : (n : ℕ) → n ≤ 65535 → Fits w16 n
fits16 n h = record { fits = omega arith }

pub fits8 : (n : ℕ) → n ≤ 255 → Fits w8 n
fits8 n h = record { fits = omega arith }

module _ {y z : ℤ} (e : y ≡ z) where
  pub least_zero : lt_z y (pos 0) ≡ true → pos 0 ≡ pos (natural z)
  least_zero h = below z (rw e at h)

  pub least_same : lt_z y (pos 0) ≡ false → y ≡ pos (natural z)
  least_same h = e ∙ not_below z (rw e at h)

  pub most_top : (M : ℕ) → lt_z (pos M) y ≡ true → M ≡ clipped M z
  most_top M h = sym (clipped_high M M z (le_refl M) (rw e at h))

  pub most_same : (M : ℕ) → lt_z (pos M) y ≡ false → z ≡ pos (natural z) → nat_abs y ≡ clipped M z
  most_same M h p = ap nat_abs e ∙ not_above M z (rw e at h) p

  pub most_fits : (M : ℕ) (w : Width) → ((n : ℕ) → n ≤ M → Fits w n) → lt_z (pos M) y ≡ false → z ≡ pos (natural z) → T (non_neg y) × Fits w (nat_abs y)
  most_fits M w f h p = rw e (inside M w f z (rw e at h) p)

-- a number from 0 on is its own natural number
pub natural_same : {y : ℤ} {n : ℕ} → y ≡ pos n → y ≡ pos (natural y)
unfolding natural
natural_same e = rw e

natural_clipped : (M : ℕ) (z : ℤ) → clipped M (pos (natural z)) ≡ clipped M z
unfolding natural clipped
natural_clipped M (pos n) = refl
natural_clipped M (negsuc n) = omega arith

pub clipped_same : {y : ℤ} (M : ℕ) (z : ℤ) → y ≡ pos (natural z) → clipped M y ≡ clipped M z
clipped_same M z e = ap (clipped M) e ∙ natural_clipped M z
