-- A number n / 2 with 2^(52 + p) added: the sum is rounded to a multiple of 2^p, and its pattern is that of 2^(52 + p) and n / 2^(p + 1), to the nearest.
-- And what a pattern stands for with p added to its exponent. Cited by the u16 pass, which rounds its sums so. Assumes nothing.
use mathlib.Core.Path.{◌≡◌, refl, sym, ap, ◌∙◌, subst}
use mathlib.Core.Logic.{inr}
use mathlib.Core.Bool.{false, not}
use Prim.Native.Nat.{ℕ, suc, ◌+◌, ◌*◌, ◌^◌, ◌≤◌, ◌<◌, min}
use native.Mathlib.Nat.{zero-lt-suc, mul_comm, mul_assoc, mul_right_comm, pow-succ'}
use native.Mathlib.Numerals.{add-one}
use native.Mathlib.Omega.{arith}
use lib.Dec.{T, lit<}
use lib.Pow.{pow-add, pow_pos}
use lib.Ieee.{Float, binary64, round, add, of_bits, to_bits, is_nan}
use lib.Ieee.Exact.{HasValue}
use lib.Ieee.Nearest.{closest}
use Rattle.floats.specs.Halves.{far}
use Rattle.floats.proofs.Value.{add_values, like_signs, rescale}
use Rattle.floats.proofs.Digits.{value_mid, round_bits_fact, closest_add}
use Rattle.floats.proofs.Codes.{code_back, round_number}

-- the pattern of a number x with p added to its exponent is that of x 2^p
scale : (K L N a d M : ℕ) → K * L * d ≡ a * N → K * (L * M) * d ≡ a * M * N
scale K L N a d M h = turn K L M d ∙ ap (λ (k : ℕ). k * M) h ∙ mul_right_comm a N M
  where
    turn : (K L M d : ℕ) → K * (L * M) * d ≡ K * L * d * M
    turn K L M d = simp (mul_assoc, mul_comm)

pub scaled_value : (x t a d p : ℕ) → t < 2 ^ 52 → suc (x + p) < 2047 → (2 ^ 52 + t) * 2 ^ x * d ≡ a * 2 ^ 1074 → HasValue (of_bits binary64 (suc x * 2 ^ 52 + t + p * 2 ^ 52)) false (a * 2 ^ p) d
scaled_value x t a d p h l e =
    rescale (of_bits binary64 (suc x * 2 ^ 52 + t + p * 2 ^ 52)) false ((2 ^ 52 + t) * 2 ^ (x + p)) (2 ^ 1074) (a * 2 ^ p) d (pow_pos 1074)
    (sym (ap (λ (k : ℕ). (2 ^ 52 + t) * k * d) (pow-add 2 x p) ∙ scale (2 ^ 52 + t) (2 ^ x) (2 ^ 1074) a d (2 ^ p) e))
    (subst (λ (b : ℕ). HasValue (of_bits binary64 b) false ((2 ^ 52 + t) * 2 ^ (x + p)) (2 ^ 1074)) (code x t p) (value_mid binary64 false (x + p) t h l))
  where
    code : (x t p : ℕ) → 0 + (suc (x + p) * 2 ^ 52 + t) ≡ suc x * 2 ^ 52 + t + p * 2 ^ 52
    code x t p = omega arith

-- ---- n halves with 2^(52 + p) added
module _ (p n : ℕ) (few : p < 971) (small : n < 2 ^ 53 * 2 ^ p) (y : Float) (v : HasValue y false n 2) where
  abbrev D : ℕ
  D = n + 2 ^ 53 * 2 ^ p

  far_value : HasValue (far p) false (2 ^ 52 * 2 ^ p) 1
  far_value = scaled_value 1074 0 (2 ^ 52) 1 p (lit< tt) (omega arith) refl

  twice : 2 ^ (p + 1) ≡ 2 * 2 ^ p
  twice = ap (λ (i : ℕ). 2 ^ i) (add-one p) ∙ pow-succ' 2 p

  far_sum : add binary64 y (far p) ≡ round binary64 false (D * 2 ^ 0) (2 ^ 1)
  far_sum =
      add_values binary64 y (far p) false false n 2 (2 ^ 52 * 2 ^ p) 1 (zero-lt-suc 1) (zero-lt-suc 0) v (far_value)
      ∙ like_signs binary64 (n * 1) (2 ^ 52 * 2 ^ p * 2) 2
      ∙ ap (λ (k : ℕ). round binary64 false k 2) (go n (2 ^ p))
    where
      go : (n M : ℕ) → n * 1 + 2 ^ 52 * M * 2 ≡ (n + 2 ^ 53 * M) * 2 ^ 0
      go n M = omega arith

  pub far_number : T (not (is_nan (add binary64 y (far p))))
  far_number = subst (λ (x : Float). T (not (is_nan x))) (sym far_sum) (round_number binary64 false (D * 2 ^ 0) (2 ^ 1))

  below : D < 2 ^ (53 + (p + 1))
  below = subst (λ (k : ℕ). D < k) (sym (pow-add 2 53 (p + 1) ∙ ap (λ (k : ℕ). 2 ^ 53 * k) twice)) (go n (2 ^ p) small)
    where
      go : (n M : ℕ) → n < 2 ^ 53 * M → n + 2 ^ 53 * M < 2 ^ 53 * (2 * M)
      go n M h = omega arith

  above : 2 ^ (52 + (p + 1)) ≤ D
  above = subst (λ (k : ℕ). k ≤ D) (sym (pow-add 2 52 (p + 1) ∙ ap (λ (k : ℕ). 2 ^ 52 * k) twice)) (go n (2 ^ p))
    where
      go : (n M : ℕ) → 2 ^ 52 * (2 * M) ≤ n + 2 ^ 53 * M
      go n M = omega arith

  place : 1 + (p + 1074) ≡ p + 1 + (0 + 1074)
  place = omega arith

  digits : closest D (2 ^ (p + 1)) ≡ 2 ^ 52 + closest n (2 ^ (p + 1))
  digits =
      ap (λ (k : ℕ). closest k (2 ^ (p + 1))) (go n (2 ^ p) ∙ ap (λ (k : ℕ). 2 ^ 51 * 2 * k + n) (sym twice))
      ∙ closest_add (2 ^ 51) n (2 ^ (p + 1)) (pow_pos (p + 1))
    where
      go : (n M : ℕ) → n + 2 ^ 53 * M ≡ 2 ^ 51 * 2 * (2 * M) + n
      go n M = omega arith

  pub far_bits : closest n (2 ^ (p + 1)) ≤ 2 ^ 52 → to_bits binary64 (add binary64 y (far p)) ≡ (p + 1075) * 2 ^ 52 + closest n (2 ^ (p + 1))
  far_bits h =
      let C = closest D (2 ^ (p + 1)) in
      let b = min ((p + 1074) * 2 ^ 52 + C) (2047 * 2 ^ 52) in
      ap (to_bits binary64) (far_sum ∙ sym (round_bits_fact binary64 D 0 1 (p + 1) (p + 1074) below (inr above) place false))
      ∙ code_back binary64 (0 + b) (omega arith) (omega arith)
      ∙ omega (arith, digits)
