-- The sizes of a fraction, and that values from 2 ^ 52 on are whole. Cited by the roundings on patterns, the range of a line and the promises. Assumes nothing.
use Rattle.std.proofs.Common.{◌≡◌, ℕ, zero, suc, ◌+◌, ◌-◌, ◌*◌, ◌/◌, ◌^◌, ◌<◌, ◌≤◌, Bool, T, ℤ, pos, negsuc, sym, refl, ap, le_trans, le_of_eq, le_of_suc-le-suc, add-zero, mul-le-mul_right, zero-lt-suc, suc-mul, div-lt_iff_lt-mul, le_antisymm, mul-le-mul_left, mul-pos, mul-one, mul_right_comm, not-le_of_lt, le_of_mul-le-mul_right, mul_left_comm, arith, pow_pos, pow_mono}
use native.Mathlib.Nat.{div-eq_of_lt-le, lt-div-mul-add}
use lib.Ieee.{fin, binary64, up, down, fits}
use lib.Ieee.Nearest.{div_same}
use Rattle.numbers.specs.Whole.{cut, raised}
use Rattle.integers.specs.Nearest.{nearest}
use Rattle.floats.proofs.Laws.{fits_digits}

-- ---- a / c
module _ (a c : ℕ) (C : 0 < c) where
  half_l : (k : ℕ) → k * (2 * c) ≡ 2 * (k * c)
  half_l k = mul_left_comm k 2 c

  pub raised_le : (n : ℕ) → a ≤ n * c → raised a c ≤ n
  raised_le n h = let s : suc n * c ≡ n * c + c = suc-mul n c in le_of_suc-le-suc ((div-lt_iff_lt-mul C).1 (omega arith))

  pub half_le : (n : ℕ) → a ≤ n * c → nearest a c ≤ n
  half_le n h =
      let s : suc n * (2 * c) ≡ n * (2 * c) + 2 * c = suc-mul n (2 * c) in
      let u = half_l n in
      le_of_suc-le-suc ((div-lt_iff_lt-mul (mul-pos (zero-lt-suc 1) C)).1 (omega arith))

-- ---- the sizes see only the fraction's value
abbrev pub Fair : (ℕ → ℕ → ℕ) → Type 0
Fair g = (a c b d : ℕ) → 0 < c → 0 < d → a * d ≡ b * c → g a c ≡ g b d

pub cut_fair : Fair cut
cut_fair a c b d C D e = div_same a c b d C D e

raised_ge : (a c : ℕ) → 0 < c → a ≤ raised a c * c
raised_ge a c C = let l = lt-div-mul-add {a = a + (c - 1)} {b = c} C in omega arith

pub raised_fair : Fair raised
raised_fair a c b d C D e = le_antisymm (half a c b d C D e) (half b d a c D C (sym e))
  where
    half : (a c b d : ℕ) → 0 < c → 0 < d → a * d ≡ b * c → raised a c ≤ raised b d
    half a c b d C D e =
        raised_le a c C (raised b d)
        (le_of_mul-le-mul_right (le_trans (le_of_eq e) (le_trans (mul-le-mul_right c (raised_ge b d D)) (le_of_eq (mul_right_comm (raised b d) d c)))) D)

pub nearest_fair : Fair nearest
nearest_fair a c b d C D e = div_same (2 * a + c) (2 * c) (2 * b + d) (2 * d) (twice c C) (twice d D) (go a c b d e)
  where
    twice : (c : ℕ) → 0 < c → 0 < 2 * c
    twice c h = omega arith

    go : (a c b d : ℕ) → a * d ≡ b * c → (2 * a + c) * (2 * d) ≡ (2 * b + d) * (2 * c)
    go a c b d e = omega arith

-- below 1, and at 0
pub cut_none : (a c : ℕ) → a < c → cut a c ≡ 0
cut_none a c h = div-eq_of_lt-le c (omega arith) (omega arith)

pub raised_none : (a c : ℕ) → 0 < c → a ≡ 0 → raised a c ≡ 0
raised_none a c C h = div-eq_of_lt-le c (omega arith) (omega arith)

pub raised_one : (a c : ℕ) → 0 < a → a < c → raised a c ≡ 1
raised_one a c l h = div-eq_of_lt-le c (omega arith) (omega arith)

pub nearest_none : (a c : ℕ) → 0 < c → 2 * a < c → nearest a c ≡ 0
nearest_none a c C h = div-eq_of_lt-le (2 * c) (omega arith) (omega arith)

pub nearest_one : (a c : ℕ) → a < c → c ≤ 2 * a → nearest a c ≡ 1
nearest_one a c h l = div-eq_of_lt-le (2 * c) (omega arith) (omega arith)

-- with a unit u: what is added before the digits below it are dropped
pub cut_step : (d u : ℕ) → cut d u ≡ (d + 0) / u
cut_step d u = ap (λ (z : ℕ). z / u) (sym (add-zero d))

pub nearest_step : (d h : ℕ) → 0 < h → nearest d (2 * h) ≡ (d + 2 * h / 2) / (2 * h)
nearest_step d h l = div_same (2 * d + 2 * h) (2 * (2 * h)) (d + 2 * h / 2) (2 * h) (omega arith) (omega arith) (go d h (2 * h / 2) (omega arith))
  where
    go : (d h k : ℕ) → k ≡ h → (2 * d + 2 * h) * (2 * h) ≡ (d + k) * (2 * (2 * h))
    go d h k e = rw e (omega arith)

-- ---- values from 2 ^ 52 on are whole
one_le : (k : ℕ) → 1 ≤ suc k
one_le k = omega arith

pub big_exp : (s : Bool) (m : ℕ) (e : ℤ) → T (fits binary64 (fin s m e)) → 2 ^ 52 * down e ≤ m * up e → down e ≡ 1
big_exp s m (pos k) t h = refl
big_exp s zero (negsuc k) t h = absurd (not-le_of_lt (mul-pos (pow_pos 52) (pow_pos (suc k))) h)
big_exp s (suc m) (negsuc k) t h =
    absurd (not-le_of_lt (fits_digits binary64 s m (negsuc k) t).0
    (le_trans (mul-le-mul_left (2 ^ 52) (pow_mono {i = 1} {j = suc k} (one_le k))) (le_trans h (le_of_eq (mul-one (suc m))))))
