-- The sums in line order: one turn of the loop, and their size. At most 8,192 terms of at most 2^192 stay at most 2^205, since rounding does not cross a number
-- that binary64 holds; so no infinity and no NaN comes up. Cited by the functions of `sums` and `columns`. Assumes nothing.
use mathlib.Core.Path.{◌≡◌, refl, sym, ◌∙◌, subst}
use mathlib.Core.Bool.{false}
use mathlib.Core.List.{List}
use Prim.Native.Nat.{ℕ, zero, suc, ◌+◌, ◌*◌, ◌^◌, ◌≤◌, ◌<◌, zero-le}
use native.Mathlib.Nat.{le_refl, le_trans, le_of_lt, lt_of_lt_of_le, lt_of_le_of_lt, one-mul, mul-le-mul_right, suc-mul}
use native.Mathlib.Numerals.{add-one}
use native.Mathlib.Omega.{arith}
use lib.ListN.{length, get_or}
use lib.Dec.{lit≤, lit<}
use lib.Ieee.{Float, nan, binary64, round, add, mul, of_bits}
use lib.Ieee.Exact.{HasValue}
use Rattle.floats.specs.Within.{AtMost}
use Rattle.floats.proofs.AtMost.{add_at, mul_at, at_more}
use Rattle.floats.proofs.Laws.{exact_up}
use Rattle.row_f32.specs.Column.{column_sum, Summable}

-- ---- one term more
pub sum_none : (ws src : List Float) (at row : ℕ) → of_bits binary64 0 ≡ column_sum ws src at row 0
unfolding column_sum
sum_none ws src at row = refl

pub turn : (ws src : List Float) (at row k i : ℕ) {r a : Float} → r ≡ add binary64 a (mul binary64 (get_or src i nan) (get_or ws k nan)) → a ≡ column_sum ws src at row k → i ≡ at + k * row → r ≡ column_sum ws src at row (k + 1)
unfolding column_sum
turn ws src at row k i er ea ei = er ∙ rw (ea, ei, add-one k) refl

-- ---- k x 2^192 is a number of binary64
held : (k : ℕ) → k ≤ 8192 → HasValue (round binary64 false (k * 2 ^ 192) 1) false (k * 2 ^ 192) 1
held k h = exact_up binary64 false k 192 (lt_of_le_of_lt h (lit< tt)) (lt_of_le_of_lt (mul-le-mul_right (2 ^ 192) h) (lit< tt))

product : HasValue (round binary64 false (2 ^ 128 * 2 ^ 64) 1) false (2 ^ 128 * 2 ^ 64) 1
product = subst (λ (z : ℕ). HasValue (round binary64 false z 1) false z 1) (one-mul (2 ^ 192)) (held 1 (lit≤ tt))

step_at : (k : ℕ) (a s w : Float) → k < 8192 → AtMost a (k * 2 ^ 192) → AtMost s (2 ^ 128) → AtMost w (2 ^ 64) → AtMost (add binary64 a (mul binary64 s w)) (suc k * 2 ^ 192)
step_at k a s w h p q r =
    let e : k * 2 ^ 192 + 2 ^ 128 * 2 ^ 64 ≡ suc k * 2 ^ 192 = sym (suc-mul k (2 ^ 192)) in
    subst (λ (z : ℕ). AtMost (add binary64 a (mul binary64 s w)) z) e
    (add_at binary64 a (mul binary64 s w) (k * 2 ^ 192) (2 ^ 128 * 2 ^ 64) p (mul_at binary64 s w (2 ^ 128) (2 ^ 64) q r product)
    (subst (λ (z : ℕ). HasValue (round binary64 false z 1) false z 1) (sym e) (held (suc k) h)))

zero_at : (n : ℕ) → AtMost (of_bits binary64 0) n
unfolding of_bits
zero_at n = zero-le

sum_bound : (ws src : List Float) (at row n : ℕ) → n ≤ 8192 → ((k : ℕ) → k < n → AtMost (get_or ws k nan) (2 ^ 64)) → ((k : ℕ) → k < n → AtMost (get_or src (at + k * row) nan) (2 ^ 128)) → AtMost (column_sum ws src at row n) (n * 2 ^ 192)
unfolding column_sum
sum_bound ws src at row zero h p q = zero_at (0 * 2 ^ 192)
sum_bound ws src at row (suc n) h p q =
    step_at n (column_sum ws src at row n) (get_or src (at + n * row) nan) (get_or ws n nan) h
    (sum_bound ws src at row n (le_trans (le_of_lt (le_refl (suc n))) h) (λ k l. p k (lt_of_lt_of_le l (le_of_lt (le_refl (suc n))))) (λ k l. q k (lt_of_lt_of_le l (le_of_lt (le_refl (suc n))))))
    (q n (le_refl (suc n))) (p n (le_refl (suc n)))

-- ---- a window's columns
module _ (ws src : List Float) (at row cols : ℕ) (g : Summable ws src at row cols) where
  swap : (A K t : ℕ) → A + t + K ≡ A + K + t
  swap A K t = omega arith

  light_at : (k t : ℕ) → k < length ws → t < cols → AtMost (get_or src (at + t + k * row) nan) (2 ^ 128)
  light_at k t h l = subst (λ (z : ℕ). AtMost (get_or src z nan) (2 ^ 128)) (sym (swap at (k * row) t)) (g.light k t h l)

  pub good_bound : (t : ℕ) → t < cols → AtMost (column_sum ws src (at + t) row (length ws)) (2 ^ 205)
  good_bound t l =
      at_more (column_sum ws src (at + t) row (length ws)) (length ws * 2 ^ 192) (2 ^ 205) (mul-le-mul_right (2 ^ 192) g.few)
      (sum_bound ws src (at + t) row (length ws) g.few g.heavy (λ k h. light_at k t h l))

  -- some of them
  pub good_part : (j n : ℕ) → j + n ≤ cols → Summable ws src (at + j) row n
  good_part j n h = record {
    few = g.few;
    rows = g.rows;
    there = λ k l. within (k * row) (g.there k l);
    heavy = g.heavy;
    light = λ k t l u. subst (λ (z : ℕ). AtMost (get_or src z nan) (2 ^ 128)) (move at (k * row) j t) (g.light k (j + t) l (inner j n t h u));
  }
    where
      within : (K : ℕ) → at + K + cols ≤ length src → at + j + K + n ≤ length src
      within K l = omega arith

      move : (A K j t : ℕ) → A + K + (j + t) ≡ A + j + K + t
      move A K j t = omega arith

      inner : (j n t : ℕ) → j + n ≤ cols → t < n → j + t < cols
      inner j n t h u = omega arith

pub good_one : (ws src : List Float) (at row : ℕ) → Summable ws src at row 1 → AtMost (column_sum ws src at row (length ws)) (2 ^ 205)
good_one ws src at row g = subst (λ (z : ℕ). AtMost (column_sum ws src z row (length ws)) (2 ^ 205)) (zero_right at) (good_bound ws src at row 1 g 0 (lit< tt))
  where
    zero_right : (a : ℕ) → a + 0 ≡ a
    zero_right a = omega arith
