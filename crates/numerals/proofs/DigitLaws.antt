-- Laws of digits and of the numbers that they write: a number of n digits stays below the base's power of n. Cited by the readers of
-- numbers here and by those of edges. Assumes nothing.
use mathlib.Core.List.{List}
use mathlib.Core.Path.{◌≡◌, refl, sym, ap, ◌∙◌}
use mathlib.Core.Bool.{Bool, true, false, cond}
use Prim.Native.Nat.{ℕ, zero, suc, ◌+◌, ◌*◌, ◌^◌, ◌≤◌, ◌<◌}
use native.Mathlib.Nat.{le_refl, le_trans, le_of_eq, le-add_right, add-zero, mul-le-mul_right, mul-le-mul_left, mul_assoc, mul-one, add-mul, one-mul, pow-le-pow_right}
use native.Mathlib.Numerals.{unary_clauses}
use native.Mathlib.Omega.{arith}
use borrow.Author.Tests.{ltb-true}
use lib.Dec.{ltb}
use lib.ListN.{get_or}
use Rattle.lists.specs.Tab.{any}
use Rattle.lists.proofs.AnyLaws.{any_none}
use Rattle.lists.proofs.BoolLaws.{never}
use Rattle.lists.proofs.TurnLaws.{turns_more}
use Rattle.numerals.specs.Digits.{digit_of, figure, behind, numeral}

-- one that passes: some does
pub any_some : (t : ℕ → Bool) (n k : ℕ) → k < n → t k ≡ true → any n t ≡ true
any_some t n k l e = by (any n t) refl
  where
    by : (b : Bool) → any n t ≡ b → any n t ≡ true
    by true q = q
    by false q = never (sym e ∙ any_none t n q k l)

-- what a byte adds is below the base
pub figure_small : (base b : ℕ) → 0 < base → figure base b + 1 ≤ base
unfolding figure
figure_small base b some = by (ltb (digit_of b) base) refl
  where
    by : (t : Bool) → ltb (digit_of b) base ≡ t → cond t (digit_of b) 0 + 1 ≤ base
    by true q = let l = ltb-true (digit_of b) base q in omega arith
    by false q = omega arith

power_more : (b n : ℕ) → b ^ suc n ≡ b ^ n * b
power_more b n = simp unary_clauses refl

module _ (base : ℕ) (text : List ℕ) (a v : ℕ) (some : 0 < base) where
  -- one digit more
  step : (m f p : ℕ) → m + 1 ≤ p → f + 1 ≤ base → m * base + f + 1 ≤ p * base
  step m f p h l =
      let e : (m + 1) * base ≡ m * base + base = add-mul m 1 base ∙ rw one-mul in
      let s : (m + 1) * base ≤ p * base = mul-le-mul_right base h in
      omega arith

  -- a number continued by n digits
  pub numeral_small : (n : ℕ) → numeral base text a v n + 1 ≤ (v + 1) * base ^ n
  unfolding numeral
  numeral_small zero = simp (unary_clauses, mul-one) (le_refl (suc v))
  numeral_small (suc n) =
      le_trans (step (numeral base text a v n) (figure base (get_or text (a + n) 0)) ((v + 1) * base ^ n) (numeral_small n) (figure_small base (get_or text (a + n) 0) some))
      (le_of_eq (mul_assoc (v + 1) (base ^ n) base ∙ ap (λ (p : ℕ). (v + 1) * p) (sym (power_more base n))))

  -- a digit more
  pub numeral_more : (k : ℕ) → numeral base text a v k * base + figure base (get_or text (a + k) 0) ≡ numeral base text a v (k + 1)
  unfolding numeral
  numeral_more k = turns_more (behind base text a) v k

  -- a number does not shrink when digits follow
  pub numeral_grows : (k d : ℕ) → numeral base text a v k ≤ numeral base text a v (k + d)
  numeral_grows k zero = rw add-zero (le_refl (numeral base text a v k))
  numeral_grows k (suc d) =
      let e : k + suc d ≡ k + d + 1 = omega arith in
      rw (e, ← numeral_more (k + d))
      (le_trans (numeral_grows k d) (le_trans (le_of_eq (sym (mul-one (numeral base text a v (k + d))))) (le_trans (mul-le-mul_left (numeral base text a v (k + d)) some) (le-add_right (numeral base text a v (k + d) * base) (figure base (get_or text (a + (k + d)) 0))))))

  -- the next digit of n does not pass the limit
  pub numeral_room : (n k : ℕ) → k < n → (v + 1) * base ^ n ≤ 2 ^ 64 → numeral base text a v k * base + figure base (get_or text (a + k) 0) + 1 ≤ 2 ^ 64
  unfolding numeral
  numeral_room n k l h =
      le_trans (numeral_small (suc k))
      (le_trans (mul-le-mul_left (v + 1) (pow-le-pow_right some l)) h)
