-- Lanes of the scan: a zero times a finite number is a zero, and times an infinity or a NaN a NaN. Cited by the functions of `scan` and `samples`.
-- Assumes nothing.
use mathlib.Core.Path.{◌≡◌, refl, sym, ap, ◌∙◌, subst}
use mathlib.Core.Bool.{Bool, true, false, cond}
use Prim.Native.Nat.{ℕ, zero, suc, ◌+◌, ◌*◌, ◌^◌, ◌<◌, zero-le}
use native.Mathlib.Nat.{le_trans, le_of_eq, le_of_lt, zero-lt-suc, zero-mul, mul-one, mul-pos, add_assoc, not-suc-le-zero}
use borrow.Author.Count.{below_more}
use native.Mathlib.Omega.{arith}
use lib.IntN.{ℤ}
use mathlib.Core.List.{List}
use lib.ListN.{get_or, replicate, get_or-replicate}
use lib.Dec.{T, eqb, eqb→eq}
use lib.Ieee.{Float, nan, inf, fin, Format, binary32, up, down, unlike, round, mul, eq, level, of_bits, fits}
use lib.Ieee.Fits.{down_pos, up_pos}
use lib.Ieee.Exact.{HasValue}
use lib.Ieee.Back.{round_whole}
use lib.Ieee.Scale.{round_same, finite}
use Rattle.floats.specs.Within.{AtMost}
use Rattle.floats.proofs.Laws.{fits_digits}
use Rattle.floats.proofs.Value.{same_test}
use Rattle.lists.proofs.StoreLaws.{below_block}
use Rattle.finite_f32.specs.Scan.{is_zero_value, flag, Zeros, Flags, Made, Small}

zero_value : (x : Float) (s : Bool) → HasValue x s 0 1 → T (is_zero_value x)
zero_value nan s v = absurd v
zero_value (inf t) s v = absurd v
zero_value (fin t zero e) s v = tt
zero_value (fin t (suc m) e) s v = absurd (clash (suc m * up e) (0 * down e) (mul-pos (zero-lt-suc m) (up_pos e)) (sym (mul-one (suc m * up e)) ∙ v.1) (zero-mul (down e)))
  where
    clash : (a b : ℕ) → 0 < a → a ≡ b → b ≡ 0 → ⊥
    clash a b p e z = omega arith

round_zero : (f : Format) (s : Bool) (a c : ℕ) → 0 < c → a ≡ 0 → T (is_zero_value (round f s a c))
round_zero f s a c C e = subst (λ (x : Float). T (is_zero_value x)) (round_same f s 0 1 a c (zero-lt-suc 0) C (zero-mul c ∙ sym (ap (λ (z : ℕ). z * 1) e))) (zero_value (round f s 0 1) s (round_whole f s 0 zero-le))

pub zero_flag : (x : Float) → T (is_zero_value x) → T (flag x)
zero_flag nan h = tt
zero_flag (inf s) h = h
zero_flag (fin s m e) h = h

product_zero : (f : Format) (s t : Bool) (m n : ℕ) (e d : ℤ) → T (eqb m 0) → T (is_zero_value (round f (unlike s t) (m * up e * (n * up d)) (down e * down d)))
product_zero f s t m n e d h =
    round_zero f (unlike s t) (m * up e * (n * up d)) (down e * down d) (mul-pos (down_pos e) (down_pos d))
    (ap (λ (z : ℕ). z * up e * (n * up d)) (eqb→eq m 0 h) ∙ ap (λ (z : ℕ). z * (n * up d)) (zero-mul (up e)) ∙ zero-mul (n * up d))

-- what a flag times a sample is
pub times_flag : (f : Format) (z s : Float) → T (flag z) → T (flag (mul f z s))
unfolding mul
times_flag f nan s h = tt
times_flag f (inf t) s h = absurd h
times_flag f (fin t m e) nan h = tt
times_flag f (fin t m e) (inf u) h = subst (λ (b : Bool). T (flag (cond b nan (inf (unlike t u))))) (sym (is_yes (eqb m 0) h)) tt
  where
    is_yes : (b : Bool) → T b → b ≡ true
    is_yes true h = refl
    is_yes false h = absurd h
times_flag f (fin t m e) (fin u n d) h = zero_flag (round f (unlike t u) (m * up e * (n * up d)) (down e * down d)) (product_zero f t u m n e d h)

pub times_zero : (f : Format) (z s : Float) → T (is_zero_value z) → T (finite s) → T (is_zero_value (mul f z s))
unfolding mul
times_zero f nan s h k = absurd h
times_zero f (inf t) s h k = absurd h
times_zero f (fin t m e) nan h k = absurd k
times_zero f (fin t m e) (inf u) h k = absurd k
times_zero f (fin t m e) (fin u n d) h k = product_zero f t u m n e d h

pub times_back : (f : Format) (z s : Float) → T (flag z) → T (is_zero_value (mul f z s)) → T (is_zero_value z) × T (finite s)
unfolding mul
times_back f nan s h k = absurd k
times_back f (inf t) s h k = absurd h
times_back f (fin t m e) nan h k = absurd k
times_back f (fin t m e) (inf u) h k = absurd (never (eqb m 0) k)
  where
    never : (b : Bool) → T (is_zero_value (cond b nan (inf (unlike t u)))) → ⊥
    never true k = k
    never false k = k
times_back f (fin t m e) (fin u n d) h k = (h, tt)

-- ---- a finite f32 is below 2 ^ 128
pub small_finite : (s : Float) → T (fits binary32 s) → T (finite s) → AtMost s (2 ^ 128)
small_finite nan t h = absurd h
small_finite (inf s) t h = absurd h
small_finite (fin s zero e) t h = le_trans (le_of_eq (zero-mul (up e))) zero-le
small_finite (fin s (suc m) e) t h = le_of_lt (fits_digits binary32 s m e t).2

-- ---- the test
pub zero_test : (z : Float) → T (flag z) → eq z (of_bits binary32 0) ≡ is_zero_value z
unfolding eq of_bits
zero_test nan h = refl
zero_test (inf s) h = absurd h
zero_test (fin s m e) h = go m h
  where
    go : (m : ℕ) → T (eqb m 0) → level s (m * up e * 1) false (0 * 1 * down e) ≡ eqb m 0
    go m h = same_test (level s (m * up e * 1) false (0 * 1 * down e)) (eqb m 0) (λ t. h) (λ t. yes)
      where
        none : m * up e * 1 ≡ 0
        none = ap (λ (z : ℕ). z * up e * 1) (eqb→eq m 0 h) ∙ ap (λ (z : ℕ). z * 1) (zero-mul (up e))

        none' : 0 * 1 * down e ≡ 0
        none' = zero-mul (down e)

        yes : T (level s (m * up e * 1) false (0 * 1 * down e))
        yes = subst (λ (z : ℕ). T (level s z false (0 * 1 * down e))) (sym none) (subst (λ (z : ℕ). T (level s 0 false z)) (sym none') (any s))
          where
            any : (s : Bool) → T (level s 0 false 0)
            any true = tt
            any false = tt

pub start_zero : T (is_zero_value (of_bits binary32 0))
unfolding of_bits
start_zero = tt

-- ---- n lanes, each with one of n samples more
module _ (n : ℕ) (zz r src : List Float) (at : ℕ) (made : Made n zz r src at) (flags : Flags n zz) where
  pub lane_flag : Flags n r
  lane_flag t h = subst (λ (z : Float). T (flag z)) (sym (made t h).0) (times_flag binary32 (get_or zz t nan) (get_or src (at + t) nan) (flags t h))

  pub lane_back : Zeros n r → (t : ℕ) → t < n → T (is_zero_value (get_or zz t nan)) × T (finite (get_or src (at + t) nan))
  lane_back z t h = times_back binary32 (get_or zz t nan) (get_or src (at + t) nan) (flags t h) (subst (λ (x : Float). T (is_zero_value x)) (made t h).0 (z t h))

  -- the samples are small, those of `Small` from 0 on below n
  pub lane_small : Zeros n r → Small src at 0 n
  lane_small z t p h = small_finite (get_or src (at + t) nan) (made t h).1 (lane_back z t h).1

-- ---- sixteen lanes, one turn more
module _ (zz r src : List Float) (at q : ℕ) (made : Made 16 zz r src (at + q * 16)) (flags : Flags 16 zz) where
  pub lane_to : (((t : ℕ) → t < 16 → T (is_zero_value (get_or zz t nan))) → (x : ℕ) → x < q * 16 → AtMost (get_or src (at + x) nan) (2 ^ 128))
      → ((t : ℕ) → t < 16 → T (is_zero_value (get_or r t nan))) → (x : ℕ) → x < (q + 1) * 16 → AtMost (get_or src (at + x) nan) (2 ^ 128)
  lane_to old z x h =
      below_block (λ (x : ℕ). AtMost (get_or src (at + x) nan) (2 ^ 128)) (q * 16) 16 (old (λ t k. (lane_back 16 zz r src (at + q * 16) made flags z t k).0))
      (λ t k. subst (λ (y : ℕ). AtMost (get_or src y nan) (2 ^ 128)) (add_assoc at (q * 16) t) (lane_small 16 zz r src (at + q * 16) made flags z t zero-le k)) x (more x q h)
    where
      more : (x q : ℕ) → x < (q + 1) * 16 → x < q * 16 + 16
      more x q h = omega arith

  pub lane_from : (((x : ℕ) → x < q * 16 → T (finite (get_or src (at + x) nan))) → (t : ℕ) → t < 16 → T (is_zero_value (get_or zz t nan)))
      → ((x : ℕ) → x < (q + 1) * 16 → T (finite (get_or src (at + x) nan))) → (t : ℕ) → t < 16 → T (is_zero_value (get_or r t nan))
  lane_from old f t h =
      subst (λ (x : Float). T (is_zero_value x)) (sym (made t h).0)
      (times_zero binary32 (get_or zz t nan) (get_or src (at + q * 16 + t) nan) (old (λ x k. f x (less x q k)) t h) (subst (λ (y : ℕ). T (finite (get_or src y nan))) (sym (add_assoc at (q * 16) t)) (f (q * 16 + t) (inner q t h))))
    where
      less : (x q : ℕ) → x < q * 16 → x < (q + 1) * 16
      less x q h = omega arith

      inner : (q t : ℕ) → t < 16 → q * 16 + t < (q + 1) * 16
      inner q t h = omega arith

-- ---- the product of flags
pub flag_zero : (s : Float) → T (flag s) → T (finite s) → T (is_zero_value s)
flag_zero nan h k = absurd k
flag_zero (inf t) h k = absurd k
flag_zero (fin t m e) h k = h

pub zero_finite : (s : Float) → T (is_zero_value s) → T (finite s)
zero_finite nan h = h
zero_finite (inf t) h = h
zero_finite (fin t m e) h = tt

-- ---- n lanes at the start
pub start_zeros : (n : ℕ) → Zeros n (replicate n (of_bits binary32 0))
start_zeros n t h = subst (λ (z : Float). T (is_zero_value z)) (sym (get_or-replicate n t (of_bits binary32 0) nan h)) start_zero

pub start_flags : (n : ℕ) → Flags n (replicate n (of_bits binary32 0))
start_flags n t h = zero_flag (get_or (replicate n (of_bits binary32 0)) t nan) (start_zeros n t h)

-- ---- four lanes multiplied, each a flag: a zero only if each is one
module _ (zz : List Float) (flags : Flags 4 zz) where
  abbrev lane : ℕ → Float
  lane t = get_or zz t nan

  abbrev pub fourth : Float
  fourth = mul binary32 (mul binary32 (mul binary32 (get_or zz 0 nan) (get_or zz 1 nan)) (get_or zz 2 nan)) (get_or zz 3 nan)

  flag_2 : T (flag (mul binary32 (lane 0) (lane 1)))
  flag_2 = times_flag binary32 (lane 0) (lane 1) (flags 0 (omega arith))

  flag_3 : T (flag (mul binary32 (mul binary32 (lane 0) (lane 1)) (lane 2)))
  flag_3 = times_flag binary32 (mul binary32 (lane 0) (lane 1)) (lane 2) flag_2

  pub four_flag : T (flag fourth)
  four_flag = times_flag binary32 (mul binary32 (mul binary32 (lane 0) (lane 1)) (lane 2)) (lane 3) flag_3

  pub four_zeros : T (is_zero_value fourth) → Zeros 4 zz
  four_zeros h =
      let b3 = times_back binary32 (mul binary32 (mul binary32 (lane 0) (lane 1)) (lane 2)) (lane 3) flag_3 h in
      let b2 = times_back binary32 (mul binary32 (lane 0) (lane 1)) (lane 2) flag_2 b3.0 in
      let b1 = times_back binary32 (lane 0) (lane 1) (flags 0 (omega arith)) b2.0 in
      let Lane : ℕ → Type 0 = λ t. T (is_zero_value (get_or zz t nan)) in
      below_more Lane 3 (below_more Lane 2 (below_more Lane 1 (below_more Lane 0 (λ x k. absurd (not-suc-le-zero k)) b1.0) (flag_zero (lane 1) (flags 1 (omega arith)) b1.1)) (flag_zero (lane 2) (flags 2 (omega arith)) b2.1)) (flag_zero (lane 3) (flags 3 (omega arith)) b3.1)

-- ---- samples further on
pub small_more : (src : List Float) (at k n : ℕ) → Small src at 0 k → Small src (at + k) 0 n → Small src at 0 (k + n)
small_more src at k n old new t p h =
    below_block (λ (x : ℕ). AtMost (get_or src (at + x) nan) (2 ^ 128)) k n (λ x l. old x zero-le l)
    (λ u l. subst (λ (y : ℕ). AtMost (get_or src y nan) (2 ^ 128)) (add_assoc at k u) (new u zero-le l)) t h
