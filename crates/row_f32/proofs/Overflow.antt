-- Times a power of two and back: the identity where the format can hold it (`stays`), the infinity where it cannot (`leaves`). Over any format. Cited by
-- `Narrowed`. Assumes nothing.
use mathlib.Core.Path.{◌≡◌, refl, sym, ap, ◌∙◌, subst}
use Prim.Native.Nat.{ℕ, suc, ◌+◌, ◌-◌, ◌*◌, ◌/◌, ◌%◌, ◌^◌, ◌≤◌, ◌<◌, compare}
use native.Mathlib.Nat.{le_trans, le_of_eq, lt_of_lt_of_le, zero-lt-suc, zero-mul, le-div_iff_mul-le, div-div-eq-div-mul, not-le_of_lt, lt_of_not-le, mul-one, mul_comm, mul_assoc, mul_left_comm, mul-le-mul_right, mul-pos}
use native.Mathlib.Omega.{arith}
use mathlib.Core.Bool.{Bool, true, false}
use lib.Dec.{not_T, eqb, eqb→eq}
use lib.Pow.{pow-add, pow_pos, pow_mono}
use lib.Ieee.{Float, nan, inf, fin, Format, prec, emax, low, up, down, unlike, size, round, mul}
use lib.Ieee.Fits.{round_is, down_pos, two}
use lib.Ieee.Exact.{HasValue, round_exact}
use lib.Ieee.Nearest.{closest, nearest-ge}
use lib.Ieee.Digits.{size-lt, size_reaches}
use lib.Ieee.Scale.{round_same}
use lib.Ieee.Bits.{cond_no}
use Rattle.floats.proofs.Pattern.{units_over}
use Rattle.floats.proofs.Value.{mul_values}

-- ---- what is too large
size_gt : (n j : ℕ) → 2 ^ j ≤ n → j < size n
size_gt n j h = lt_of_not-le (λ (g : size n ≤ j). not-le_of_lt (lt_of_lt_of_le (size-lt n) (pow_mono g)) h)

pub round_over : (f : Format) (s : Bool) (num den : ℕ) → 0 < den → 2 ^ (low f + suc (emax f)) * den ≤ num * 2 ^ low f → round f s num den ≡ inf s
round_over f s num den D h = round_is f s num den ∙ units_over f s (closest n (den * 2 ^ k)) k far
  where
    n : ℕ
    n = num * 2 ^ low f

    k : ℕ
    k = size (num * 2 ^ low f / den) - prec f

    far : 2 ^ (low f + suc (emax f)) ≤ closest (num * 2 ^ low f) (den * 2 ^ (size (num * 2 ^ low f / den) - prec f)) * 2 ^ (size (num * 2 ^ low f / den) - prec f)
    far =
        let n = num * 2 ^ low f in
        let z = size (n / den) in
        let k = z - prec f in
        let l : low f + suc (emax f) < z = size_gt (n / den) (low f + suc (emax f)) ((le-div_iff_mul-le D).1 h) in
        let r : 2 ^ (z - 1) ≤ n / den = size_reaches (n / den) (z - 1) (one_less z (low f + suc (emax f)) l) in
        let e : 2 ^ (z - 1 - k) * 2 ^ k ≡ 2 ^ (z - 1) = sym (pow-add 2 (z - 1 - k) k) ∙ ap (λ (y : ℕ). 2 ^ y) (back z (prec f) (two f) (low f + suc (emax f)) l) in
        let q : 2 ^ (z - 1 - k) ≤ n / (den * 2 ^ k) = subst (λ (y : ℕ). 2 ^ (z - 1 - k) ≤ y) (div-div-eq-div-mul n den (2 ^ k)) ((le-div_iff_mul-le (pow_pos k)).1 (le_trans (le_of_eq e) r)) in
        le_trans (pow_mono (lower z (low f + suc (emax f)) l)) (le_trans (le_of_eq (sym e)) (mul-le-mul_right (2 ^ k) (le_trans q (nearest-ge (n / (den * 2 ^ k)) (compare (n % (den * 2 ^ k) * 2) (den * 2 ^ k))))))
      where
        one_less : (z l : ℕ) → l < z → z - 1 < z
        one_less z l h = omega arith

        lower : (z l : ℕ) → l < z → l ≤ z - 1
        lower z l h = omega arith

        back : (z p : ℕ) → 2 ≤ p → (l : ℕ) → l < z → z - 1 - (z - p) + (z - p) ≡ z - 1
        back z p h l g = omega arith

-- ---- times 2 ^ 896 and back
unlike_false : (s : Bool) → unlike s false ≡ s
unlike_false true = refl
unlike_false false = refl

inf_times : (f : Format) (s : Bool) (y : Float) (b d : ℕ) → 0 < d → 0 < b → HasValue y false b d → mul f (inf s) y ≡ inf s
unfolding mul
inf_times f s nan b d D B v = absurd v
inf_times f s (inf t) b d D B v = absurd v
inf_times f s (fin t n g) b d D B v =
    cond_no (eqb n 0) nan (inf (unlike s t)) (not_T (eqb n 0) (λ z. clash (n * up g * d) (b * down g) (mul-pos B (down_pos g)) v.1 (ap (λ (k : ℕ). k * up g * d) (eqb→eq n 0 z) ∙ ap (λ (k : ℕ). k * d) (zero-mul (up g)) ∙ zero-mul d)))
    ∙ ap (λ (z : Bool). inf (unlike s z)) v.0 ∙ ap inf (unlike_false s)
  where
    clash : (a b : ℕ) → 0 < b → a ≡ b → a ≡ 0 → ⊥
    clash a b B e z = omega arith

module _ (f : Format) (s : Bool) (A B : Float) (Q K g : ℕ) (vA : HasValue A false (2 ^ g) 1) (vB : HasValue B false 1 (2 ^ g)) (small : Q < 2 ^ prec f) (fine : Q * 2 ^ K < 2 ^ (low f + suc (emax f))) where
  abbrev Y : Float
  Y = round f s (Q * 2 ^ K) (2 ^ low f)

  pub YValue : HasValue (round f s (Q * 2 ^ K) (2 ^ low f)) s (Q * 2 ^ K) (2 ^ low f)
  YValue = round_exact f s (Q * 2 ^ K) (2 ^ low f) Q K (pow_pos (low f)) small fine refl

  up_is : mul f Y A ≡ round f s (Q * 2 ^ K * 2 ^ g) (2 ^ low f * 1)
  up_is = mul_values f Y A s false (Q * 2 ^ K) (2 ^ low f) (2 ^ g) 1 (pow_pos (low f)) (zero-lt-suc 0) YValue vA ∙ ap (λ (z : Bool). round f z (Q * 2 ^ K * 2 ^ g) (2 ^ low f * 1)) (unlike_false s)

  one_pow : Q * 2 ^ (K + g) ≡ Q * 2 ^ K * 2 ^ g
  one_pow = ap (λ (z : ℕ). Q * z) (pow-add 2 K g) ∙ sym (mul_assoc Q (2 ^ K) (2 ^ g))

  up_value : Q * 2 ^ K * 2 ^ g < 2 ^ (low f + suc (emax f)) → HasValue (mul f Y A) s (Q * 2 ^ K * 2 ^ g) (2 ^ low f * 1)
  up_value h =
      subst (λ (z : Float). HasValue z s (Q * 2 ^ K * 2 ^ g) (2 ^ low f * 1)) (sym up_is)
      (round_exact f s (Q * 2 ^ K * 2 ^ g) (2 ^ low f * 1) Q (K + g) (mul-pos (pow_pos (low f)) (zero-lt-suc 0)) small (subst (λ (z : ℕ). z < 2 ^ (low f + suc (emax f))) (sym one_pow) h)
      (ap (λ (z : ℕ). z * 2 ^ low f) (sym one_pow) ∙ ap (λ (z : ℕ). Q * 2 ^ (K + g) * z) (sym (mul-one (2 ^ low f)))))

  pub stays : Q * 2 ^ K * 2 ^ g < 2 ^ (low f + suc (emax f)) → mul f (mul f (round f s (Q * 2 ^ K) (2 ^ low f)) A) B ≡ round f s (Q * 2 ^ K) (2 ^ low f)
  stays h =
      mul_values f (mul f Y A) B s false (Q * 2 ^ K * 2 ^ g) (2 ^ low f * 1) 1 (2 ^ g) (mul-pos (pow_pos (low f)) (zero-lt-suc 0)) (pow_pos g) (up_value h) vB
      ∙ ap (λ (z : Bool). round f z (Q * 2 ^ K * 2 ^ g * 1) (2 ^ low f * 1 * 2 ^ g)) (unlike_false s)
      ∙ round_same f s (Q * 2 ^ K * 2 ^ g * 1) (2 ^ low f * 1 * 2 ^ g) (Q * 2 ^ K) (2 ^ low f) (mul-pos (mul-pos (pow_pos (low f)) (zero-lt-suc 0)) (pow_pos g)) (pow_pos (low f))
      (flat (Q * 2 ^ K) (2 ^ g) (2 ^ low f))
    where
      flat : (a b c : ℕ) → a * b * 1 * c ≡ a * (c * 1 * b)
      flat a b c = simp (mul-one, mul_assoc, mul_comm, mul_left_comm) refl

  pub leaves : 2 ^ (low f + suc (emax f)) ≤ Q * 2 ^ K * 2 ^ g → mul f (mul f (round f s (Q * 2 ^ K) (2 ^ low f)) A) B ≡ inf s
  leaves h =
      ap (λ (z : Float). mul f z B) (up_is ∙ round_over f s (Q * 2 ^ K * 2 ^ g) (2 ^ low f * 1) (mul-pos (pow_pos (low f)) (zero-lt-suc 0)) (le_trans (mul-le-mul_right (2 ^ low f * 1) h) (le_of_eq (ap (λ (z : ℕ). Q * 2 ^ K * 2 ^ g * z) (mul-one (2 ^ low f))))))
      ∙ inf_times f s B 1 (2 ^ g) (pow_pos g) (zero-lt-suc 0) vB
