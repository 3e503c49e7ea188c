-- The proofs of `WindowNotDarker` and `WindowBetween`: the formula keeps the order, and with an excess of 0 a flat frame of the smallest sample, or of the largest, comes out as it is.
-- Also what `smallest` and `largest` are. Assumes nothing.
use mathlib.Core.Path.{◌≡◌, refl, ap, ◌∙◌}
use mathlib.Core.Bool.{Bool, true, false}
use Prim.Native.Nat.{ℕ, zero, suc, ◌*◌, ◌^◌, ◌≤◌, ◌<◌}
use native.Mathlib.Nat.{not-suc-le-zero}
use native.Mathlib.Numerals.{add-one}
use native.Mathlib.Omega.{arith}
use borrow.Author.Count.{below_more}
use borrow.Author.Tests.{ltb-true, ltb-false}
use lib.Dec.{ltb}
use lib.Pow.{pow_pos}
use lib.IntN.{ℤ, pos, nat_abs}
use Rattle.integers.specs.Sums.{sum, distance, value}
use Rattle.integers.proofs.Parts.{distance_pos}
use Rattle.orders.specs.Negative.{some_negative_value}
use Rattle.orders.proofs.Monotone.{value_mono}
use Rattle.windows.specs.Set.{size, weight, sample, excess}
use Rattle.promises.proofs.Frames.{flat_unchanged}
use Rattle.ringing.specs.NoRinging.{smallest, largest, WindowNotDarker, WindowBetween}

module _ (s : ℕ → ℕ) where
  -- no sample is below the smallest or above the largest
  pub smallest_below : (n k : ℕ) → k < n → smallest s n ≤ s k
  smallest_below zero k l = absurd (not-suc-le-zero l)
  smallest_below (suc n) k l = below_more (λ (k : ℕ). smallest s (suc n) ≤ s k) n (λ k l. omega (arith, smallest_below n k l)) (omega arith) k (rw add-one l)

  pub largest_above : (n k : ℕ) → k < n → s k ≤ largest s n
  largest_above zero k l = absurd (not-suc-le-zero l)
  largest_above (suc n) k l = below_more (λ (k : ℕ). s k ≤ largest s (suc n)) n (λ k l. omega (arith, largest_above n k l)) (omega arith) k (rw add-one l)

  -- one of the n samples has the value v
  pub record There (n v : ℕ) : Type 0 where
    pub line : ℕ
    pub inside : line < n
    pub is : s line ≡ v

  -- of one sample more: the value is the new sample, or what it was
  there_more : {n v u : ℕ} → There n v → (t : Bool) → (t ≡ true → s n ≡ u) → (t ≡ false → v ≡ u) → There (suc n) u
  there_more {n} {v} {u} h true new old = record { line = n; inside = omega arith; is = new refl }
  there_more {n} {v} {u} h false new old = let l = h.inside in record { line = h.line; inside = omega arith; is = h.is ∙ old refl }

  -- each of the two is a sample
  pub smallest_there : (n : ℕ) → There (suc n) (smallest s (suc n))
  smallest_there zero = record { line = 0; inside = omega arith; is = omega arith }
  smallest_there (suc n) =
      let v = smallest s (suc n) in
      there_more (smallest_there n) (ltb (s (suc n)) v) (λ e. let l : s (suc n) < v = ltb-true (s (suc n)) v e in omega arith) (λ e. let l : v ≤ s (suc n) = ltb-false (s (suc n)) v e in omega arith)

  pub largest_there : (n : ℕ) → There (suc n) (largest s (suc n))
  largest_there zero = record { line = 0; inside = omega arith; is = omega arith }
  largest_there (suc n) =
      let v = largest s (suc n) in
      there_more (largest_there n) (ltb v (s (suc n))) (λ e. let l : v < s (suc n) = ltb-true v (s (suc n)) e in omega arith) (λ e. let l : s (suc n) ≤ v = ltb-false v (s (suc n)) e in omega arith)

-- ---- n weights whose excess is 0
module _ (w : ℕ → ℤ) (P : ℕ) where
  exact : (n : ℕ) → excess P w n ≡ pos 0 → distance (sum w n) (pos (2 ^ P)) ≡ 0
  unfolding excess
  exact n e = ap nat_abs e

  -- there is a weight: none add up to 0
  some_line : (n : ℕ) → excess P w n ≡ pos 0 → 0 < n
  unfolding sum
  some_line zero e = let some : 0 < 2 ^ P = pow_pos P in absurd (omega (arith, exact 0 e, distance_pos 0 (2 ^ P)))
  some_line (suc n) e = omega arith

  -- a flat frame of samples up to M comes out as it is
  flat : (M n v : ℕ) → 1 ≤ P → excess P w n ≡ pos 0 → v ≤ M → value M P w (λ k. v) n ≡ v
  flat M n v h e top =
      let d = distance (sum w n) (pos (2 ^ P)) in
      let none : 2 * M * d ≡ 2 * M * 0 = ap (λ (m : ℕ). 2 * M * m) (exact n e) in
      let some : 0 < 2 ^ P = pow_pos P in
      flat_unchanged w n M P v h (omega arith) top

  between : (M n : ℕ) (s : ℕ → ℕ) → 1 ≤ P → some_negative_value w n ≡ false → excess P w n ≡ pos 0 → ((k : ℕ) → k < n → s k ≤ M)
      → (smallest s n ≤ value M P w s n) × (value M P w s n ≤ largest s n)
  between M zero s h none e top = absurd (not-suc-le-zero (some_line zero e))
  between M (suc n) s h none e top =
      let low = smallest_there s n in
      let high = largest_there s n in
      let a = top low.line low.inside in
      let b = top high.line high.inside in
      let below = value_mono M P (suc n) w (λ k. smallest s (suc n)) s none (smallest_below s (suc n)) in
      let above = value_mono M P (suc n) w s (λ k. largest s (suc n)) none (largest_above s (suc n)) in (
        omega (arith, below, flat M (suc n) (smallest s (suc n)) h e (omega (arith, a, low.is))),
        omega (arith, above, flat M (suc n) (largest s (suc n)) h e (omega (arith, b, high.is))),
      )

-- ---- at a window and column
pub window_not_darker : WindowNotDarker
window_not_darker M s a b i j none less =
    value_mono M s.precision (size s.set.layout i) (weight s.set (pos 0) i) (sample s.set.layout a i j) (sample s.set.layout b i j) none less

pub window_between : WindowBetween
window_between M s a i j some none e top = between (weight s.set (pos 0) i) s.precision M (size s.set.layout i) (sample s.set.layout a i j) some none e top
