-- No sum wraps: in size it is at most its start and 255 times the sizes of the weights so far, and with all of a window's weights that leaves room in an i32.
-- Cited by the functions on sums and by the judge. Assumes nothing.
use mathlib.Core.Path.{◌≡◌, refl, ap, ◌∙◌}
use mathlib.Core.Logic.{◌⊎◌, inl, inr}
use Prim.Native.Nat.{ℕ, zero, suc, ◌+◌, ◌*◌, ◌^◌, ◌<◌, ◌≤◌}
use native.Mathlib.Nat.{lt_of_le_of_lt, le_refl, mul-le-mul, mul_comm, eq-or-lt_of_le, le_of_suc-le-suc}
use native.Mathlib.Numerals.{add-one}
use native.Mathlib.Omega.{arith}
use lib.IntN.{ℤ, pos, nat_abs, ◌+ℤ◌, ◌*ℤ◌}
use lib.Signed.{mag}
use mir.Facts.{to_z-of_z}
use mir.Syntax.{w32}
use mir.Val.{SFits, to_z, of_z}
use Rattle.integers.proofs.Parts.{add_size, scale_size, mag_size}
use Rattle.row_u8.specs.Sizes.{sizes_total_value}

-- ---- the sizes of weights, added up
pub total_none : (w : ℕ → ℤ) → sizes_total_value w 0 ≡ 0
unfolding sizes_total_value
total_none w = refl

total_suc : (w : ℕ → ℤ) (n : ℕ) → sizes_total_value w (suc n) ≡ sizes_total_value w n + nat_abs (w n)
unfolding sizes_total_value
total_suc w n = refl

pub total_more : (w : ℕ → ℤ) (k : ℕ) → sizes_total_value w (k + 1) ≡ sizes_total_value w k + nat_abs (w k)
total_more w k = rw (add-one k) (total_suc w k)

pub total_ext : (w v : ℕ → ℤ) (n : ℕ) → ((k : ℕ) → k < n → w k ≡ v k) → sizes_total_value w n ≡ sizes_total_value v n
unfolding sizes_total_value
total_ext w v zero h = refl
total_ext w v (suc n) h = rw (h n (le_refl (suc n)), total_ext w v n (λ k l. h k (omega arith))) refl

-- line k's weight is among the first n
pub total_part : (w : ℕ → ℤ) (k n : ℕ) → k < n → sizes_total_value w k + nat_abs (w k) ≤ sizes_total_value w n
total_part w k zero h = absurd (omega arith)
total_part w k (suc n) h = go (eq-or-lt_of_le (le_of_suc-le-suc h)) (λ l. total_part w k n l)
  where
    go : (k ≡ n) ⊎ (k < n) → (k < n → sizes_total_value w k + nat_abs (w k) ≤ sizes_total_value w n) → sizes_total_value w k + nat_abs (w k) ≤ sizes_total_value w (suc n)
    go (inl e) f = rw e (omega (arith, total_suc w n))
    go (inr l) f = omega (arith, f l, total_suc w n)

-- ---- sizes
fits : (z : ℤ) → nat_abs z < 2 ^ 31 → SFits w32 z
fits z h = record { sfits = lt_of_le_of_lt (mag_size z) h }

term_size : (w : ℤ) (s : ℕ) → s < 2 ^ 8 → nat_abs (w *ℤ pos s) ≤ 255 * nat_abs w
term_size w s h = let l : s ≤ 255 = omega arith in rw (scale_size w s) (omega (arith, mul-le-mul (le_refl (nat_abs w)) l, mul_comm (nat_abs w) 255))

step_size : (a w : ℤ) (s : ℕ) → s < 2 ^ 8 → nat_abs (a +ℤ w *ℤ pos s) ≤ nat_abs a + 255 * nat_abs w
step_size a w s h = omega (arith, add_size a (w *ℤ pos s), term_size w s h)

-- one line more in the bound, and room for it; h is the size of the start, v the weight, w what the machine reads back for it
pub turn_size : (h : ℕ) (f : ℕ → ℤ) (a w : ℤ) (s k : ℕ) {r : ℤ} → r ≡ a +ℤ w *ℤ pos s → w ≡ f k → nat_abs a ≤ h + 255 * sizes_total_value f k → s < 2 ^ 8 → nat_abs r ≤ h + 255 * sizes_total_value f (k + 1)
turn_size h f a w s k er ew ha hs = let e : nat_abs w ≡ nat_abs (f k) = ap nat_abs ew in rw er (omega (arith, step_size a w s hs, total_more f k, e))

pub turn_room : (h : ℕ) (f : ℕ → ℤ) (a w : ℤ) (k n : ℕ) → w ≡ f k → k < n → nat_abs a ≤ h + 255 * sizes_total_value f k → h + 255 * sizes_total_value f n ≤ 2147483647 → nat_abs a + 255 * nat_abs w ≤ 2147483647
turn_room h f a w k n ew l ha hn = rw ew (omega (arith, total_part f k n l))

-- ---- the machine's step: b, y and x are what it reads back for a, w and s
module _ {a w b y x : ℤ} {s : ℕ} (ea : b ≡ a) (ew : y ≡ w) (es : x ≡ pos s) (ha : nat_abs a + 255 * nat_abs w ≤ 2147483647) (hw : mag w < 2 ^ 15) (hs : s < 2 ^ 8) where
  pub product_fits : SFits w32 (y *ℤ x)
  product_fits = rw (ew, es) (fits (w *ℤ pos s) (omega (arith, term_size w s hs)))

  product : to_z w32 (of_z w32 (y *ℤ x)) ≡ w *ℤ pos s
  product = to_z-of_z product_fits ∙ rw (ew, es) refl

  pub step_fits : SFits w32 (b +ℤ to_z w32 (of_z w32 (y *ℤ x)))
  step_fits = rw (product, ea) (fits (a +ℤ w *ℤ pos s) (omega (arith, step_size a w s hs)))

  pub step_is : to_z w32 (of_z w32 (b +ℤ to_z w32 (of_z w32 (y *ℤ x)))) ≡ a +ℤ w *ℤ pos s
  step_is = to_z-of_z step_fits ∙ rw (product, ea) refl
