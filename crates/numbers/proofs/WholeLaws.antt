-- Whole numbers by their patterns, with either sign, by the exponent's field: from 2 ^ 52 on a value is whole; from 1 on k * 2 ^ 52 + n * unit is the pattern of the whole
-- number n, and dropping what is below the unit gives one; below 1 the value lies on one side of a half. Cited by the directions. Assumes nothing.
use Rattle.std.proofs.Common.{◌≡◌, ℕ, zero, suc, ◌+◌, ◌-◌, ◌*◌, ◌/◌, ◌%◌, ◌^◌, ◌<◌, ◌≤◌, Bool, true, false, cond, T, sym, refl, ap, ◌∙◌, subst, inr, le_trans, le_of_eq, lt_of_lt_of_le, lt_of_le_of_lt, mul-le-mul_right, mod-lt, mul_assoc, div-lt_iff_lt-mul, add-mul, mul-le-mul, lt_of_mul-lt-mul_right, mul-le-mul_left, mul-pos, one-mul, pow-suc, div-add-mod', le-div_iff_mul-le, zero-mul, mul-one, mul_right_comm, not-le_of_lt, div-mul-le_self, le_of_mul-le-mul_right, arith, lit<, lit≤, pow_pos, pow_mono, pow-add, shl_lt}
use native.Mathlib.Nat.{mul-add-div_right, min-eq_left}
use lib.Pow.{pow-lt}
use lib.Ieee.{Float, nan, inf, fin, binary64, up, down, round, of_bits, fits, units}
use lib.Ieee.Fits.{down_pos, round-fits}
use lib.Ieee.Exact.{HasValue, units_val}
use lib.Ieee.Back.{round_whole}
use lib.Ieee.Bits.{of_bits-fits}
use Rattle.floats.proofs.Laws.{fits_unique, round_fit}
use Rattle.floats.proofs.Pattern.{units_bits}
use Rattle.floats.proofs.Digits.{value_zero, value_mid}
use Rattle.numbers.specs.Whole.{whole}
use Rattle.numbers.proofs.Sizes.{Fair, big_exp}

-- ---- `whole` by the value
module _ (g : Bool → ℕ → ℕ → ℕ) (s : Bool) (h : ℕ → ℕ → ℕ) (is : (a c : ℕ) → g s a c ≡ h a c) (fair : Fair h) where
  pub whole_value : (x : Float) (a c : ℕ) → 0 < c → HasValue x s a c → whole g binary64 x ≡ round binary64 s (h a c) 1
  unfolding whole
  whole_value nan a c C p = absurd p
  whole_value (inf r) a c C p = absurd p
  whole_value (fin r m e) a c C p =
      ap (λ (z : Bool). round binary64 z (g z (m * up e) (down e)) 1) p.0
      ∙ ap (λ (n : ℕ). round binary64 s n 1) (is (m * up e) (down e) ∙ fair (m * up e) (down e) a c (down_pos e) C p.1)

value_times : (x : Float) (s : Bool) (n z : ℕ) → HasValue x s n 1 → HasValue x s (n * z) z
value_times nan s n z p = absurd p
value_times (inf r) s n z p = absurd p
value_times (fin r m e) s n z p = (p.0, ap (λ (k : ℕ). k * z) (sym (mul-one (m * up e)) ∙ p.1) ∙ mul_right_comm n (down e) z)

-- ---- a whole number n, k places above the smallest: n * u, u the unit's place
module _ (s : Bool) (n k u : ℕ) (place : u * 2 ^ k ≡ 2 ^ 1074) (low : k ≤ 1073) (least : 2 ^ 52 ≤ n * u) (most : n * u ≤ 2 ^ 53) where
  unit_pos : (u : ℕ) → u * 2 ^ k ≡ 2 ^ 1074 → 0 < u
  unit_pos zero e = absurd (not-le_of_lt (pow_pos 1074) (le_of_eq (sym e ∙ zero-mul (2 ^ k))))
  unit_pos (suc u) e = omega arith

  n_small : n ≤ 2 ^ 53
  n_small = le_trans (le_trans (le_of_eq (sym (mul-one n))) (mul-le-mul_left n (unit_pos u place))) most

  placed : n * u * 2 ^ k ≡ n * 2 ^ 1074
  placed = mul_assoc n u (2 ^ k) ∙ ap (λ (z : ℕ). n * z) place

  under : n * u * 2 ^ k < 2 ^ (1074 + 1024)
  under = lt_of_le_of_lt (le_of_eq placed) (lt_of_le_of_lt (mul-le-mul_right (2 ^ 1074) n_small) (lt_of_le_of_lt (le_of_eq (sym (pow-add 2 53 1074))) (pow-lt {i = 53 + 1074} {j = 1074 + 1024} (lit< tt))))

  within : k * 2 ^ 52 + n * u ≤ 2047 * 2 ^ 52
  within = room (n * u) most
    where
      room : (q : ℕ) → q ≤ 2 ^ 53 → k * 2 ^ 52 + q ≤ 2047 * 2 ^ 52
      room q h = omega arith

  by_units : of_bits binary64 (cond s (2 ^ 63) 0 + (k * 2 ^ 52 + n * u)) ≡ units binary64 s (n * u) k
  by_units = ap (λ (z : ℕ). of_bits binary64 (cond s (2 ^ 63) 0 + z)) (sym (min-eq_left within)) ∙ units_bits binary64 s (n * u) k most (inr least)

  pub whole_units : of_bits binary64 (cond s (2 ^ 63) 0 + (k * 2 ^ 52 + n * u)) ≡ round binary64 s n 1
  whole_units =
      fits_unique binary64 (of_bits binary64 (cond s (2 ^ 63) 0 + (k * 2 ^ 52 + n * u))) (round binary64 s n 1) s (n * 2 ^ 1074) (2 ^ 1074) (pow_pos 1074)
      (of_bits-fits binary64 (cond s (2 ^ 63) 0 + (k * 2 ^ 52 + n * u))) (round-fits binary64 s n 1)
      (subst (λ (v : Float). HasValue v s (n * 2 ^ 1074) (2 ^ 1074)) (sym by_units) (subst (λ (z : ℕ). HasValue (units binary64 s (n * u) k) s z (2 ^ 1074)) placed (units_val binary64 s (n * u) k under)))
      (value_times (round binary64 s n 1) s n (2 ^ 1074) (round_whole binary64 s n n_small))

-- ---- from 1 to below 2 ^ 52: the field is suc k, the unit 2 ^ j with j + k ≡ 1074
module _ (g : Bool → ℕ → ℕ → ℕ) (s : Bool) (h : ℕ → ℕ → ℕ) (is : (a c : ℕ) → g s a c ≡ h a c) (fair : Fair h) (k j t m : ℕ) (place : j + k ≡ 1074) (least : 1 ≤ j) (most : j ≤ 52)
    (small : t < 2 ^ 52) (less : m < 2 ^ j) (step : h (2 ^ 52 + t) (2 ^ j) ≡ (2 ^ 52 + t + m) / 2 ^ j) where
  abbrev n : ℕ
  n = (2 ^ 52 + t + m) / 2 ^ j

  powers : 2 ^ j * 2 ^ k ≡ 2 ^ 1074
  powers = sym (pow-add 2 j k) ∙ ap (λ (z : ℕ). 2 ^ z) place

  units_of : (i : ℕ) → j ≤ i → 2 ^ i ≡ 2 ^ (i - j) * 2 ^ j
  units_of i l = ap (λ (z : ℕ). 2 ^ z) (back i l) ∙ pow-add 2 (i - j) j
    where
      back : (i : ℕ) → j ≤ i → i ≡ i - j + j
      back i l = omega arith

  n_least : 2 ^ 52 ≤ n * 2 ^ j
  n_least =
      le_trans (le_of_eq (units_of 52 most)) (mul-le-mul_right (2 ^ j)
      ((le-div_iff_mul-le (pow_pos j)).1 (le_trans (le_of_eq (sym (units_of 52 most))) (more t m))))
    where
      more : (t m : ℕ) → 2 ^ 52 ≤ 2 ^ 52 + t + m
      more t m = omega arith

  n_most : n * 2 ^ j ≤ 2 ^ 53
  n_most =
      let v = 2 ^ (53 - j) in
      let e : 2 ^ 53 ≡ v * 2 ^ j = units_of 53 (le_trans most (lit≤ tt)) in
      let over : n * 2 ^ j < (v + 1) * 2 ^ j =
      room t m (2 ^ j) (n * 2 ^ j) (v * 2 ^ j) ((v + 1) * 2 ^ j) small less (div-mul-le_self (2 ^ 52 + t + m) (2 ^ j)) e (add-mul v 1 (2 ^ j) ∙ ap (λ (z : ℕ). v * 2 ^ j + z) (one-mul (2 ^ j))) in
      let l : n < v + 1 = lt_of_mul-lt-mul_right (2 ^ j) {m = n} {n = v + 1} over in
      le_trans (mul-le-mul_right (2 ^ j) (down n v l)) (le_of_eq (sym e))
    where
      room : (t m u q w x : ℕ) → t < 2 ^ 52 → m < u → q ≤ 2 ^ 52 + t + m → 2 ^ 53 ≡ w → x ≡ w + u → q < x
      room t m u q w x a b l e f = omega arith

      down : (i v : ℕ) → i < v + 1 → i ≤ v
      down i v l = omega arith

  dropped : (suc k * 2 ^ 52 + t + m) / 2 ^ j * 2 ^ j ≡ k * 2 ^ 52 + n * 2 ^ j
  dropped =
      let e : k * 2 ^ 52 ≡ k * 2 ^ (52 - j) * 2 ^ j = ap (λ (z : ℕ). k * z) (units_of 52 most) ∙ sym (mul_assoc k (2 ^ (52 - j)) (2 ^ j)) in
      ap (λ (z : ℕ). z / 2 ^ j * 2 ^ j) (turn t m ∙ ap (λ (z : ℕ). z + (2 ^ 52 + t + m)) e)
      ∙ ap (λ (z : ℕ). z * 2 ^ j) (mul-add-div_right (pow_pos j) (k * 2 ^ (52 - j)) (2 ^ 52 + t + m))
      ∙ add-mul (k * 2 ^ (52 - j)) n (2 ^ j) ∙ ap (λ (z : ℕ). z + n * 2 ^ j) (sym e)
    where
      turn : (t m : ℕ) → suc k * 2 ^ 52 + t + m ≡ k * 2 ^ 52 + (2 ^ 52 + t + m)
      turn t m = omega arith

  pub middle : of_bits binary64 (cond s (2 ^ 63) 0 + (suc k * 2 ^ 52 + t + m) / 2 ^ j * 2 ^ j) ≡ whole g binary64 (of_bits binary64 (cond s (2 ^ 63) 0 + (suc k * 2 ^ 52 + t)))
  middle =
      ap (λ (z : ℕ). of_bits binary64 (cond s (2 ^ 63) 0 + z)) dropped
      ∙ whole_units s n k (2 ^ j) powers (omega arith) n_least n_most
      ∙ ap (λ (z : ℕ). round binary64 s z 1)
      (sym step ∙ fair (2 ^ 52 + t) (2 ^ j) ((2 ^ 52 + t) * 2 ^ k) (2 ^ 1074) (pow_pos j) (pow_pos 1074) (ap (λ (z : ℕ). (2 ^ 52 + t) * z) (sym powers) ∙ swap (2 ^ 52 + t) (2 ^ j) (2 ^ k)))
      ∙ sym (whole_value g s h is fair (of_bits binary64 (cond s (2 ^ 63) 0 + (suc k * 2 ^ 52 + t))) ((2 ^ 52 + t) * 2 ^ k) (2 ^ 1074) (pow_pos 1074) (value_mid binary64 s k t small (omega arith)))
    where
      swap : (d u v : ℕ) → d * (u * v) ≡ d * v * u
      swap d u v = omega arith

-- ---- from 2 ^ 52 on the value is whole
module _ (g : Bool → ℕ → ℕ → ℕ) (s : Bool) (h : ℕ → ℕ → ℕ) (is : (a c : ℕ) → g s a c ≡ h a c) (one : (a : ℕ) → h a 1 ≡ a) where
  big : (x : Float) (a c : ℕ) → T (fits binary64 x) → 0 < c → HasValue x s a c → 2 ^ 52 * c ≤ a → x ≡ whole g binary64 x
  unfolding whole
  big nan a c t C p l = absurd p
  big (inf r) a c t C p l = absurd p
  big (fin r m e) a c t C p l =
      let w : 2 ^ 52 * down e * c ≤ m * up e * c = le_trans (le_of_eq (mul_right_comm (2 ^ 52) (down e) c)) (le_trans (mul-le-mul_right (down e) l) (le_of_eq (sym p.1))) in
      let d : down e ≡ 1 = big_exp r m e t (le_of_mul-le-mul_right w C) in
      sym
      (ap (λ (z : Bool). round binary64 z (g z (m * up e) (down e)) 1) p.0 ∙ ap (λ (n : ℕ). round binary64 s n 1) (is (m * up e) (down e) ∙ ap (h (m * up e)) d ∙ one (m * up e))
      ∙ ap (λ (z : ℕ). round binary64 s (m * up e) z) (sym d) ∙ ap (λ (z : Bool). round binary64 z (m * up e) (down e)) (sym p.0) ∙ round_fit binary64 r m e t)

  pub high : (X t : ℕ) → t < 2 ^ 52 → 1075 ≤ X → X < 2047 → of_bits binary64 (cond s (2 ^ 63) 0 + (X * 2 ^ 52 + t)) ≡ whole g binary64 (of_bits binary64 (cond s (2 ^ 63) 0 + (X * 2 ^ 52 + t)))
  high zero t b l u = absurd (omega arith)
  high (suc k) t b l u =
      big (of_bits binary64 (cond s (2 ^ 63) 0 + (suc k * 2 ^ 52 + t))) ((2 ^ 52 + t) * 2 ^ k) (2 ^ 1074) (of_bits-fits binary64 (cond s (2 ^ 63) 0 + (suc k * 2 ^ 52 + t))) (pow_pos 1074)
      (value_mid binary64 s k t b u) (mul-le-mul (lead t) (pow_mono {i = 1074} {j = k} (omega arith)))
    where
      lead : (t : ℕ) → 2 ^ 52 ≤ 2 ^ 52 + t
      lead t = omega arith

pub infinite : (g : Bool → ℕ → ℕ → ℕ) (s : Bool) → of_bits binary64 (cond s (2 ^ 63) 0 + 0x7ff0_0000_0000_0000) ≡ whole g binary64 (of_bits binary64 (cond s (2 ^ 63) 0 + 0x7ff0_0000_0000_0000))
unfolding of_bits whole
infinite g true = refl
infinite g false = refl

-- ---- below 1: the size over 2 ^ 1074, on which side of a half it lies, and when it is 0
pub record Below (s : Bool) (p : ℕ) : Type 0 where
  pub size : ℕ
  pub value : HasValue (of_bits binary64 (cond s (2 ^ 63) 0 + p)) s size (2 ^ 1074)
  pub less : size < 2 ^ 1074
  pub none : p ≡ 0 → size ≡ 0
  pub some : 0 < p → 0 < size
  pub under : p < 0x3fe0_0000_0000_0000 → 2 * size < 2 ^ 1074
  pub over : 0x3fe0_0000_0000_0000 ≤ p → 2 ^ 1074 ≤ 2 * size

below_field : (s : Bool) (X t : ℕ) → t < 2 ^ 52 → X < 1023 → Below s (X * 2 ^ 52 + t)
below_field s zero t b l = record {
  size = t * 2 ^ 0;
  value = value_zero binary64 s t b;
  less = lt_of_le_of_lt (le_of_eq (mul-one t)) (lt_of_lt_of_le b (pow_mono {i = 52} {j = 1074} (lit≤ tt)));
  none = (λ e. omega arith);
  some = (λ e. omega arith);
  under = (λ e. lt_of_lt_of_le (twice t b) (pow_mono {i = 53} {j = 1074} (lit≤ tt)));
  over = (λ e. absurd (omega arith));
}
  where
    twice : (t : ℕ) → t < 2 ^ 52 → 2 * (t * 2 ^ 0) < 2 ^ 53
    twice t b = omega arith
below_field s (suc k) t b l = record {
  size = (2 ^ 52 + t) * 2 ^ k;
  value = value_mid binary64 s k t b (omega arith);
  less = lt_of_lt_of_le (shl_lt 53 k (wide t b)) (pow_mono {i = 53 + k} {j = 1074} (omega arith));
  none = (λ e. absurd (omega arith));
  some = (λ e. mul-pos (omega arith) (pow_pos k));
  under = (λ e. lt_of_le_of_lt (le_of_eq (double (2 ^ 52 + t))) (lt_of_lt_of_le (shl_lt 53 (suc k) (wide t b)) (pow_mono {i = 53 + suc k} {j = 1074} (omega arith))));
  over = (λ e.
      le_trans (pow_mono {i = 1074} {j = 52 + suc k} (omega arith)) (le_trans (le_of_eq (pow-add 2 52 (suc k))) (le_trans (mul-le-mul_right (2 ^ suc k) (lead t)) (le_of_eq (sym (double (2 ^ 52 + t)))))));
}
  where
    wide : (t : ℕ) → t < 2 ^ 52 → 2 ^ 52 + t < 2 ^ 53
    wide t b = omega arith

    lead : (t : ℕ) → 2 ^ 52 ≤ 2 ^ 52 + t
    lead t = omega arith

    turn : (d v : ℕ) → 2 * (d * v) ≡ d * (v * 2)
    turn d v = omega arith

    double : (d : ℕ) → 2 * (d * 2 ^ k) ≡ d * 2 ^ suc k
    double d = turn d (2 ^ k) ∙ ap (λ (z : ℕ). d * z) (sym (pow-suc 2 k))

pub below_one : (s : Bool) (p : ℕ) → p < 0x3ff0_0000_0000_0000 → Below s p
below_one s p l = subst (Below s) (div-add-mod' p (2 ^ 52)) (below_field s (p / 2 ^ 52) (p % 2 ^ 52) (mod-lt p (pow_pos 52)) ((div-lt_iff_lt-mul (pow_pos 52)).1 l))

-- the patterns of 0 and 1
pub zero_is : (s : Bool) → of_bits binary64 (cond s (2 ^ 63) 0 + 0) ≡ round binary64 s 0 1
unfolding of_bits round
zero_is true = refl
zero_is false = refl

pub one_is : (s : Bool) → of_bits binary64 (cond s (2 ^ 63) 0 + 0x3ff0_0000_0000_0000) ≡ round binary64 s 1 1
unfolding of_bits round
one_is true = refl
one_is false = refl
