-- The fast narrowing of x at one last place: x of size N / 2^1074, and c as the code finds it, for a result that drops 925 + h digits. Cited by
-- `Fast`. Assumes nothing.
use mathlib.Core.Path.{◌≡◌, refl, sym, ap, ◌∙◌, subst}
use mathlib.Core.Logic.{◌⊎◌}
use Prim.Native.Nat.{ℕ, zero, suc, ◌+◌, ◌-◌, ◌*◌, ◌/◌, ◌^◌, ◌≤◌, ◌<◌}
use native.Mathlib.Nat.{le_trans, le_of_eq, lt_of_lt_of_le, lt_of_le_of_lt, zero-lt-suc, zero-mul, mul-one, mul_comm, mul_assoc, mul_left_comm, mul-le-mul_right, lt_of_mul-lt-mul_right, le_of_mul-le-mul_right}
use native.Mathlib.Omega.{arith}
use mathlib.Core.Bool.{Bool, true, false, not, ◌&&◌}
use lib.Bits.{bit_or}
use lib.Dec.{T, ltb, ltb→lt, lt→ltb, nltb→le, lit<}
use lib.Pow.{pow-add, pow_pos, pow-lt}
use lib.Ieee.{Float, inf, binary32, binary64, units, round, add, sub, mul, of_bits, to_bits, is_nan, fits}
use lib.Ieee.Fits.{round-fits, fits_widens}
use lib.Ieee.Exact.{HasValue, units_val}
use lib.Ieee.Nearest.{closest}
use Rattle.floats.proofs.Digits.{round_digits}
use Rattle.floats.proofs.Pattern.{units_over}
use Rattle.floats.proofs.Value.{rescale}
use Rattle.numbers.proofs.NarrowLaws.{narrow_value}
use Rattle.numbers.proofs.Codes.{narrow_fits}
use Rattle.numbers.specs.Whole.{narrow}
use Rattle.row_f32.specs.Narrowing.{rounded_by}
use Rattle.row_f32.proofs.AddAway.{kept, grid}
use Rattle.row_f32.proofs.Overflow.{YValue, stays, leaves}
use Rattle.row_f32.proofs.SignBack.{bit, inf_sign, settle}

-- ---- the constants
times : HasValue (of_bits binary64 0x77f0000000000000) false (2 ^ 896) 1
unfolding of_bits
times = (refl, refl)

over : HasValue (of_bits binary64 0x07f0000000000000) false 1 (2 ^ 896)
unfolding of_bits
over = (refl, refl)

pub factor : HasValue (of_bits binary64 0x41c8000000000000) false 805306368 1
unfolding of_bits
factor = (refl, refl)

pub tiny : HasValue (of_bits binary64 0x39e8000000000000) false (3 * 2 ^ 976) (2 ^ 1074)
unfolding of_bits
tiny = (refl, refl)

pub tiny_grid : HasValue (of_bits binary64 0x39e8000000000000) false (3377699720527872 * 2 * 2 ^ (925 + 0)) (2 ^ 1074)
unfolding of_bits
tiny_grid = (refl, refl)

-- ---- x of size N / 2 ^ 1074, and c as the code finds it, for a result that drops 925 + h digits
bounds : (U N : ℕ) → N < 16777216 * U → (N < 3377699720527872 * 2 * U) × (3377699720527872 * 2 * U + N < 9007199254740992 * U) × (4503599627370496 * U ≤ 3377699720527872 * 2 * U - N)
bounds U N h = omega arith

and_l : (a b : Bool) → T (a && b) → T a
and_l true b t = tt
and_l false b t = t

and_right : (a b : Bool) → T b → (a && b) ≡ a
and_right true true t = refl
and_right false true t = refl
and_right a false t = absurd t

shuffle : (q a h b : ℕ) → q * (a * h) * b ≡ q * h * (a * b)
shuffle q a h b = simp (mul_assoc, mul_comm, mul_left_comm) refl

positive : (q a b c : ℕ) → 0 < c → c ≤ q * a * b → 0 < q
positive zero a b c C h = absurd (clash c (0 * a * b) C h (ap (λ (z : ℕ). z * b) (zero-mul a) ∙ zero-mul b))
  where
    clash : (c z : ℕ) → 0 < c → c ≤ z → z ≡ 0 → ⊥
    clash c z C h e = omega arith
positive (suc q) a b c C h = zero-lt-suc q

module _ (s : Bool) (x c : Float) (N h b : ℕ) (X : HasValue x s N (2 ^ 1074)) (C : HasValue c false (3377699720527872 * 2 * 2 ^ (925 + h)) (2 ^ 1074)) (small : N < 2 ^ (24 + (925 + h))) (lead : (h ≡ 0) ⊎ (2 ^ (23 + (925 + h)) ≤ N)) (top-h : h ≤ 331) (sb : b / 2 ^ 63 ≡ bit s) where
  abbrev K : ℕ
  K = 925 + h

  abbrev Q : ℕ
  Q = closest N (2 ^ (925 + h))

  limits : (N < 3377699720527872 * 2 * 2 ^ (925 + h)) × (3377699720527872 * 2 * 2 ^ (925 + h) + N < 2 ^ (53 + (925 + h))) × (2 ^ (52 + (925 + h)) ≤ 3377699720527872 * 2 * 2 ^ (925 + h) - N)
  limits =
      let l = bounds (2 ^ (925 + h)) N (subst (λ (z : ℕ). N < z) (pow-add 2 24 (925 + h)) small) in
      (l.0, subst (λ (z : ℕ). 3377699720527872 * 2 * 2 ^ (925 + h) + N < z) (sym (pow-add 2 53 (925 + h))) l.1, subst (λ (z : ℕ). z ≤ 3377699720527872 * 2 * 2 ^ (925 + h) - N) (sym (pow-add 2 52 (925 + h))) l.2)

  kept_q : Q ≤ 2 ^ 24
  kept_q = kept 24 N (925 + h) small

  far : 53 + (925 + h) < 2098
  far = omega arith

  fine : Q * 2 ^ (925 + h) < 2 ^ 2098
  fine = lt_of_le_of_lt (le_trans (mul-le-mul_right (2 ^ (925 + h)) kept_q) (le_of_eq (sym (pow-add 2 24 (925 + h))))) (pow-lt (go h top-h))
    where
      go : (h : ℕ) → h ≤ 331 → 24 + (925 + h) < 2098
      go h l = omega arith

  pub digits : Q < 2 ^ 53
  digits = lt_of_le_of_lt kept_q (lit< tt)

  abbrev sign : Bool
  sign = s && ltb 0 Q

  abbrev Y : Float
  Y = round binary64 sign (Q * 2 ^ (925 + h)) (2 ^ 1074)

  rounded : sub binary64 (add binary64 x c) c ≡ Y
  rounded = grid binary64 x c N (925 + h) 3377699720527872 C limits.0 limits.1 limits.2 far s X

  narrow_is : narrow x ≡ units binary32 s Q h
  narrow_is =
      narrow_value x s N (2 ^ 1074) (pow_pos 1074) X ∙ ap (λ (z : ℕ). round binary32 s z (2 ^ 1074)) (sym (mul-one N))
      ∙ round_digits binary32 N 0 1074 (925 + h) h small lead (place h) s
    where
      place : (h : ℕ) → 1074 + h ≡ 925 + h + (0 + 149)
      place h = omega arith

  split : Q * 2 ^ (925 + h) * 2 ^ 896 ≡ Q * 2 ^ h * 2 ^ 1821
  split = ap (λ (z : ℕ). Q * z * 2 ^ 896) (pow-add 2 925 h) ∙ shuffle Q (2 ^ 925) (2 ^ h) (2 ^ 896) ∙ ap (λ (z : ℕ). Q * 2 ^ h * z) (sym (pow-add 2 925 896))

  cut : Q * 2 ^ (925 + h) * 2 ^ 149 ≡ Q * 2 ^ h * 2 ^ 1074
  cut = ap (λ (z : ℕ). Q * z * 2 ^ 149) (pow-add 2 925 h) ∙ shuffle Q (2 ^ 925) (2 ^ h) (2 ^ 149) ∙ ap (λ (z : ℕ). Q * 2 ^ h * z) (sym (pow-add 2 925 149))

  pub core : T (not (is_nan (rounded_by x c))) × (of_bits binary64 (bit_or (to_bits binary64 (rounded_by x c)) (b / 2 ^ 63 * 2 ^ 63)) ≡ narrow x)
  core = go (ltb (Q * 2 ^ (925 + h) * 2 ^ 896) (2 ^ 2098)) (ltb→lt (Q * 2 ^ (925 + h) * 2 ^ 896) (2 ^ 2098)) (nltb→le (Q * 2 ^ (925 + h) * 2 ^ 896) (2 ^ 2098))
    where
      inside : Q * 2 ^ (925 + h) * 2 ^ 896 < 2 ^ 2098 → Q * 2 ^ h < 2 ^ 277
      inside l = lt_of_mul-lt-mul_right (2 ^ 1821) (lt_of_lt_of_le (subst (λ (z : ℕ). z < 2 ^ 2098) split l) (le_of_eq (pow-add 2 277 1821)))

      outside : 2 ^ 2098 ≤ Q * 2 ^ (925 + h) * 2 ^ 896 → 2 ^ 277 ≤ Q * 2 ^ h
      outside l = le_of_mul-le-mul_right (le_trans (le_of_eq (sym (pow-add 2 277 1821))) (subst (λ (z : ℕ). 2 ^ 2098 ≤ z) split l)) (pow_pos 1821)

      past : T (not (is_nan (inf s))) × (of_bits binary64 (bit_or (to_bits binary64 (inf s)) (b / 2 ^ 63 * 2 ^ 63)) ≡ inf s)
      past = (unfold is_nan in tt, inf_sign s b sb)

      go : (d : Bool) → (T d → Q * 2 ^ (925 + h) * 2 ^ 896 < 2 ^ 2098) → (T (not d) → 2 ^ 2098 ≤ Q * 2 ^ (925 + h) * 2 ^ 896)
          → T (not (is_nan (rounded_by x c))) × (of_bits binary64 (bit_or (to_bits binary64 (rounded_by x c)) (b / 2 ^ 63 * 2 ^ 63)) ≡ narrow x)
      go true p q =
          let e : rounded_by x c ≡ Y = ap (λ (z : Float). mul binary64 (mul binary64 z (of_bits binary64 0x77f0000000000000)) (of_bits binary64 0x07f0000000000000)) rounded ∙ stays binary64 sign (of_bits binary64 0x77f0000000000000) (of_bits binary64 0x07f0000000000000) Q (925 + h) 896 times over digits fine (p tt) in
          let v = units_val binary32 s Q h (inside (p tt)) in
          settle (rounded_by x c) (narrow x) sign s (Q * 2 ^ (925 + h)) (2 ^ 1074) b (pow_pos 1074)
          (subst (λ (z : Float). HasValue z sign (Q * 2 ^ (925 + h)) (2 ^ 1074)) (sym e) (YValue binary64 sign (of_bits binary64 0x77f0000000000000) (of_bits binary64 0x07f0000000000000) Q (925 + h) 896 times over digits fine))
          (subst (λ (z : Float). T (fits binary64 z)) (sym e) (round-fits binary64 sign (Q * 2 ^ (925 + h)) (2 ^ 1074)))
          (and_l s (ltb 0 Q)) sb
          (subst (λ (z : Float). HasValue z s (Q * 2 ^ (925 + h)) (2 ^ 1074)) (sym narrow_is) (rescale (units binary32 s Q h) s (Q * 2 ^ h) (2 ^ 149) (Q * 2 ^ (925 + h)) (2 ^ 1074) (pow_pos 149) cut v))
          (fits_widens (narrow x) (narrow_fits x))
      go false p q =
          let w : sign ≡ s = and_right s (ltb 0 Q) (lt→ltb 0 Q (positive Q (2 ^ (925 + h)) (2 ^ 896) (2 ^ 2098) (pow_pos 2098) (q tt))) in
          let e : rounded_by x c ≡ inf s = ap (λ (z : Float). mul binary64 (mul binary64 z (of_bits binary64 0x77f0000000000000)) (of_bits binary64 0x07f0000000000000)) rounded ∙ leaves binary64 sign (of_bits binary64 0x77f0000000000000) (of_bits binary64 0x07f0000000000000) Q (925 + h) 896 times over digits fine (q tt) ∙ ap inf w in
          let n : narrow x ≡ inf s = narrow_is ∙ units_over binary32 s Q h (outside (q tt)) in
          (subst (λ (z : Float). T (not (is_nan z))) (sym e) past.0, ap (λ (z : Float). of_bits binary64 (bit_or (to_bits binary64 z) (b / 2 ^ 63 * 2 ^ 63))) e ∙ past.1 ∙ sym n)
