-- What is below 2^128 - 2^103 in size narrows to a finite value. In units of the smallest f32 the result is q * 2^k, the multiple of 2^k nearest to the value, k at most
-- 253; half of 2^253 more than the value stays below 2^277 units, which is 2^128. Cited by `InfiniteCounts`. Assumes nothing.
use mathlib.Core.Path.{◌≡◌, refl, sym, ap, ◌∙◌, subst}
use mathlib.Core.Bool.{Bool, true, false}
use Prim.Native.Nat.{ℕ, ◌+◌, ◌-◌, ◌*◌, ◌/◌, ◌^◌, ◌≤◌, ◌<◌}
use native.Mathlib.Nat.{le_trans, le_of_eq, lt_of_lt_of_le, lt_of_not-le, mul-one, mul_comm, mul_assoc, mul_left_comm, mul-pos, mul-le-mul_left, mul-le-mul_right, mul-lt-mul_of_pos_right, div-lt_iff_lt-mul}
use native.Mathlib.Omega.{arith}
use lib.Dec.{ltb}
use lib.IntN.{ℤ}
use lib.Pow.{pow_pos, pow_mono}
use lib.Ieee.{Float, nan, inf, fin, binary32, size, units, up, down, lt, of_bits, round}
use lib.Ieee.Digits.{size-le}
use lib.Ieee.Exact.{HasValue, units_val}
use lib.Ieee.Fits.{down_pos, round_is}
use lib.Ieee.Nearest.{closest}
use borrow.Author.Tests.{ltb-true}
use Rattle.lists.proofs.BoolLaws.{never}
use Rattle.floats.proofs.Error.{closest_near}
use Rattle.numbers.specs.Whole.{abs, narrow, is_infinite}
use Rattle.promises.specs.InfiniteCounts.{least_infinite}

value_finite : (x : Float) (s : Bool) (a c : ℕ) → HasValue x s a c → is_infinite x ≡ false
value_finite nan s a c v = absurd v
value_finite (inf t) s a c v = absurd v
value_finite (fin t m e) s a c v = refl

module _ (s : Bool) (a c : ℕ) (C : 0 < c) (h : a < (2 ^ 25 - 1) * 2 ^ 103 * c) where
  abbrev n : ℕ
  n = a * 2 ^ 149

  abbrev k : ℕ
  k = size (n / c) - 24

  abbrev q : ℕ
  q = closest n (c * 2 ^ k)

  -- 2^252 for each of the denominator's; the limit is 2^25 - 1 of them, 2^128 is 2^25
  abbrev unit : ℕ
  unit = 2 ^ 252 * c

  below : n < (2 ^ 25 - 1) * unit
  below = lt_of_lt_of_le (mul-lt-mul_of_pos_right h (pow_pos 149)) (le_of_eq (flat (2 ^ 25 - 1) (2 ^ 103) c (2 ^ 149)))
    where
      flat : (l x c y : ℕ) → l * x * c * y ≡ l * (x * y * c)
      flat l x c y = simp (mul_assoc, mul_comm, mul_left_comm) refl

  few : size (n / c) ≤ 277
  few = size-le (n / c) 277 ((div-lt_iff_lt-mul C).1 (lt_of_lt_of_le (more n unit below) (le_of_eq (sym (mul_assoc (2 ^ 25) (2 ^ 252) c)))))
    where
      more : (n u : ℕ) → n < (2 ^ 25 - 1) * u → n < 2 ^ 25 * u
      more n u h = omega arith

  under : q * 2 ^ k < 2 ^ 277
  under =
      let p : 2 ^ k ≤ 2 ^ 253 = pow_mono (dropped (size (n / c)) few) in
      let near = (closest_near n (c * 2 ^ k) (mul-pos C (pow_pos k))).0 in
      lt_of_not-le (λ (g : 2 ^ 277 ≤ q * 2 ^ k).
      clash n unit (q * 2 ^ k * c) (c * 2 ^ k) below (le_trans (le_of_eq (sym (mul_assoc (2 ^ 25) (2 ^ 252) c))) (mul-le-mul_right c g)) (le_trans (mul-le-mul_left c p) (le_of_eq (mul_comm c (2 ^ 253) ∙ mul_assoc 2 (2 ^ 252) c)))
      (subst (λ (z : ℕ). 2 * z ≤ 2 * n + c * 2 ^ k) (flat q c (2 ^ k)) near))
    where
      dropped : (z : ℕ) → z ≤ 277 → z - 24 ≤ 253
      dropped z h = omega arith

      flat : (a b c : ℕ) → a * (b * c) ≡ a * c * b
      flat a b c = simp (mul_assoc, mul_comm, mul_left_comm) refl

      clash : (n u Q P : ℕ) → n < (2 ^ 25 - 1) * u → 2 ^ 25 * u ≤ Q → P ≤ 2 * u → 2 * Q ≤ 2 * n + P → ⊥
      clash n u Q P h g p e = omega arith

  round_finite : is_infinite (round binary32 s a c) ≡ false
  round_finite = ap is_infinite (round_is binary32 s a c) ∙ value_finite (units binary32 s q k) s (q * 2 ^ k) (2 ^ 149) (units_val binary32 s q k under)

-- the limit as the comparison sees it
limit : (m : ℕ) (e : ℤ) → lt (fin false m e) least_infinite ≡ ltb (m * up e * 1) ((2 ^ 25 - 1) * 2 ^ 103 * down e)
unfolding lt of_bits
limit m e = refl

pub narrow_finite : (x : Float) → lt (abs x) least_infinite ≡ true → is_infinite (narrow x) ≡ false
unfolding abs narrow lt of_bits
narrow_finite nan h = never (sym h)
narrow_finite (inf s) h = never (sym h)
narrow_finite (fin s m e) h =
    round_finite s (m * up e) (down e) (down_pos e)
    (subst (λ (z : ℕ). z < (2 ^ 25 - 1) * 2 ^ 103 * down e) (mul-one (m * up e)) (ltb-true (m * up e * 1) ((2 ^ 25 - 1) * 2 ^ 103 * down e) (sym (limit m e) ∙ h)))

-- halfway goes to the even one, which is 2^128
pub at_the_limit : is_infinite (narrow least_infinite) ≡ true
unfolding narrow round of_bits
at_the_limit = refl
