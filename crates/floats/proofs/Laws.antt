-- Rounding to a format: a value that fits is not changed, two values that fit and have one sign and one size are one, and the sign is kept and goes through.
-- Cited wherever a result is compared with `round`. Assumes nothing.
use mathlib.Core.Path.{◌≡◌, refl, sym, ap, ◌∙◌, subst}
use mathlib.Core.Bool.{Bool, true, false, not, ◌&&◌, cond}
use Prim.Native.Nat.{ℕ, zero, suc, ◌+◌, ◌-◌, ◌*◌, ◌/◌, ◌%◌, ◌^◌, ◌≤◌, ◌<◌, zero-le}
use native.Mathlib.Nat.{sub-le, zero-mul, add_comm, sub-add_cancel, le_of_suc-le-suc, lt_of_not-le, not-le_of_lt, lt_of_lt_of_le, eq_of_mul-eq-mul_right, mul-one, mul_assoc, mul_right_comm, zero-lt-suc}
use native.Mathlib.Omega.{arith}
use lib.IntN.{ℤ, pos, negsuc}
use lib.Dec.{T, ltb, leb, eqb, ltb→lt, leb→le}
use lib.Pow.{pow-add, pow_pos, pow_mono, pow-lt, shl_lt}
use lib.Ieee.{Float, nan, inf, fin, Format, prec, emax, low, up, down, size, odd, units, round, neg, fits, to_bits, of_bits, hid, top}
use lib.Ieee.Fits.{down_pos, and_l, and_r, round-fits, round_is, reach}
use lib.Ieee.Exact.{HasValue, round_exact}
use lib.Ieee.Nearest.{div_same}
use lib.Ieee.Bits.{of_bits-to_bits}
use lib.Ieee.Back.{round_whole}
use lib.Ieee.Scale.{round_same}

-- ---- two values that fit, of one sign and one size, are one
abbrev pub pattern_of : Format → Bool → ℕ → ℕ
pattern_of f s n = cond s (top f) 0 + (size n - prec f) * hid f + n / 2 ^ (size n - prec f)

pub to_bits_is : (f : Format) (s : Bool) (m : ℕ) (e : ℤ) → to_bits f (fin s m e) ≡ pattern_of f s (m * up e * 2 ^ low f / down e)
unfolding to_bits
to_bits_is f s m e = refl

units_of : (m n e d a c : ℕ) → 0 < e → 0 < d → 0 < c → m * c ≡ a * e → n * c ≡ a * d → m * d ≡ n * e
units_of m n e d a c E D C p q =
    eq_of_mul-eq-mul_right c C (m * d) (n * e)
    (mul_right_comm m d c ∙ ap (λ (z : ℕ). z * d) p ∙ mul_right_comm a e d ∙ ap (λ (z : ℕ). z * e) (sym q) ∙ mul_right_comm n c e)

pub fits_unique : (f : Format) (x y : Float) (s : Bool) (a c : ℕ) → 0 < c → T (fits f x) → T (fits f y) → HasValue x s a c → HasValue y s a c → x ≡ y
fits_unique f nan y s a c C p q v w = absurd v
fits_unique f (inf t) y s a c C p q v w = absurd v
fits_unique f (fin t m e) nan s a c C p q v w = absurd w
fits_unique f (fin t m e) (inf u) s a c C p q v w = absurd w
fits_unique f (fin t m e) (fin u n d) s a c C p q v w =
    let l = 2 ^ low f in
    let k : m * up e * down d ≡ n * up d * down e = units_of (m * up e) (n * up d) (down e) (down d) a c (down_pos e) (down_pos d) C v.1 w.1 in
    let j : m * up e * l / down e ≡ n * up d * l / down d =
    div_same (m * up e * l) (down e) (n * up d * l) (down d) (down_pos e) (down_pos d) (mul_right_comm (m * up e) l (down d) ∙ ap (λ (z : ℕ). z * l) k ∙ mul_right_comm (n * up d) (down e) l) in
    sym (of_bits-to_bits f (fin t m e) p)
    ∙ ap (of_bits f) (to_bits_is f t m e ∙ ap (λ (z : ℕ). pattern_of f t z) j ∙ ap (λ (b : Bool). pattern_of f b (n * up d * l / down d)) (v.0 ∙ sym w.0) ∙ sym (to_bits_is f u n d))
    ∙ of_bits-to_bits f (fin u n d) q

-- ---- a value that fits is not changed by rounding
-- what `fits` says of a value other than zero
pub fits_digits : (f : Format) (s : Bool) (m : ℕ) (e : ℤ) → T (fits f (fin s (suc m) e)) → (suc m < 2 ^ prec f) × (down e ≤ 2 ^ low f) × (suc m * up e < 2 ^ suc (emax f) * down e)
unfolding fits
fits_digits f s m e t =
    let A = eqb (suc m % 2) 1 in
    let B = ltb (suc m) (2 ^ prec f) in
    let C = leb (down e) (2 ^ low f) in
    let D = ltb (suc m * up e) (2 ^ suc (emax f) * down e) in
    let abc = and_l (A && B && C) D t in
    (ltb→lt (suc m) (2 ^ prec f) (and_r A B (and_l (A && B) C abc)), leb→le (down e) (2 ^ low f) (and_r (A && B) C abc), ltb→lt (suc m * up e) (2 ^ suc (emax f) * down e) (and_r (A && B && C) D t))

pub pow_le_cancel : (i j : ℕ) → 2 ^ i ≤ 2 ^ j → i ≤ j
pow_le_cancel i j h = le_of_suc-le-suc (lt_of_not-le (λ (g : j < i). not-le_of_lt (pow-lt g) h))

pub exact_up : (f : Format) (s : Bool) (m k : ℕ) → m < 2 ^ prec f → m * 2 ^ k < 2 ^ suc (emax f) * 1 → HasValue (round f s (m * 2 ^ k) 1) s (m * 2 ^ k) 1
exact_up f s m k a b =
    let h : m * 2 ^ k * 2 ^ low f ≡ m * 2 ^ (k + low f) = mul_assoc m (2 ^ k) (2 ^ low f) ∙ ap (λ (z : ℕ). m * z) (sym (pow-add 2 k (low f))) in
    round_exact f s (m * 2 ^ k) 1 m (k + low f) (zero-lt-suc 0) a
    (subst (λ (z : ℕ). z < 2 ^ (low f + suc (emax f))) h
    (subst (λ (z : ℕ). m * 2 ^ k * 2 ^ low f < 2 ^ z) (add_comm (suc (emax f)) (low f)) (shl_lt (suc (emax f)) (low f) (subst (λ (z : ℕ). m * 2 ^ k < z) (mul-one (2 ^ suc (emax f))) b))))
    (h ∙ sym (mul-one (m * 2 ^ (k + low f))))

room : (p j l e : ℕ) → p ≤ e → j ≤ l → p + j ≤ l + e
room p j l e h k = omega arith

pub exact_down : (f : Format) (s : Bool) (m k : ℕ) → m < 2 ^ prec f → suc k ≤ low f → HasValue (round f s (m * 1) (2 ^ suc k)) s (m * 1) (2 ^ suc k)
exact_down f s m k a l =
    let j = low f - suc k in
    let r : j + suc k ≡ low f = sub-add_cancel l in
    round_exact f s (m * 1) (2 ^ suc k) m j (pow_pos (suc k)) a
    (lt_of_lt_of_le (shl_lt (prec f) j a) (pow_mono (room (prec f) j (low f) (suc (emax f)) (reach f) (sub-le (low f) (suc k)))))
    (ap (λ (z : ℕ). z * 2 ^ low f) (mul-one m) ∙ ap (λ (z : ℕ). m * 2 ^ z) (sym r) ∙ ap (λ (z : ℕ). m * z) (pow-add 2 j (suc k)) ∙ sym (mul_assoc m (2 ^ j) (2 ^ suc k)))

round_same_value : (f : Format) (s : Bool) (m : ℕ) (e : ℤ) → T (fits f (fin s (suc m) e)) → HasValue (round f s (suc m * up e) (down e)) s (suc m * up e) (down e)
round_same_value f s m (pos k) t = let d = fits_digits f s m (pos k) t in exact_up f s (suc m) k d.0 d.2
round_same_value f s m (negsuc k) t = let d = fits_digits f s m (negsuc k) t in exact_down f s (suc m) k d.0 (pow_le_cancel (suc k) (low f) d.1)

pub round_fit : (f : Format) (s : Bool) (m : ℕ) (e : ℤ) → T (fits f (fin s m e)) → round f s (m * up e) (down e) ≡ fin s m e
round_fit f s zero e t =
    fits_unique f (round f s (0 * up e) (down e)) (fin s 0 e) s 0 1 (zero-lt-suc 0) (round-fits f s (0 * up e) (down e)) t
    (subst (λ (x : Float). HasValue x s 0 1) (round_same f s 0 1 (0 * up e) (down e) (zero-lt-suc 0) (down_pos e) (zero-mul (down e) ∙ sym (mul-one (0 * up e) ∙ zero-mul (up e)))) (round_whole f s 0 zero-le))
    (refl, mul-one (0 * up e) ∙ zero-mul (up e) ∙ sym (zero-mul (down e)))
round_fit f s (suc m) e t = fits_unique f (round f s (suc m * up e) (down e)) (fin s (suc m) e) s (suc m * up e) (down e) (down_pos e) (round-fits f s (suc m * up e) (down e)) t (round_same_value f s m e t) (refl, refl)

-- ---- a rounded value with the sign s is a finite number or the infinity of that sign: what all of these have, it has
odd_as : (P : Float → Type 0) (s : Bool) → ((m : ℕ) (e : ℤ) → P (fin s m e)) → (d q k l : ℕ) → P (odd d s q k l)
unfolding odd
odd_as P s h d zero k l = h _ _
odd_as P s h d (suc q) k l = h _ _

units_as : (P : Float → Type 0) (f : Format) (s : Bool) → ((m : ℕ) (e : ℤ) → P (fin s m e)) → P (inf s) → (q k : ℕ) → P (units f s q k)
unfolding units
units_as P f s h i q k = go (ltb (q * 2 ^ k) (2 ^ (low f + suc (emax f))))
  where
    go : (b : Bool) → P (cond b (odd (suc (prec f)) s q k (low f)) (inf s))
    go true = odd_as P s h (suc (prec f)) q k (low f)
    go false = i

pub round_as : (P : Float → Type 0) (f : Format) (s : Bool) (a c : ℕ) → ((m : ℕ) (e : ℤ) → P (fin s m e)) → P (inf s) → P (round f s a c)
round_as P f s a c h i = subst P (sym (round_is f s a c)) (units_as P f s h i _ _)

-- ---- the sign goes through
odd_neg : (d : ℕ) (s : Bool) (q k l : ℕ) → neg (odd d s q k l) ≡ odd d (not s) q k l
unfolding neg odd
odd_neg d s zero k l = refl
odd_neg d s (suc q) k l = refl

units_neg : (f : Format) (s : Bool) (q k : ℕ) → neg (units f s q k) ≡ units f (not s) q k
unfolding units
units_neg f s q k = go (ltb (q * 2 ^ k) (2 ^ (low f + suc (emax f))))
  where
    go : (b : Bool) → neg (cond b (odd (suc (prec f)) s q k (low f)) (inf s)) ≡ cond b (odd (suc (prec f)) (not s) q k (low f)) (inf (not s))
    go true = odd_neg (suc (prec f)) s q k (low f)
    go false = unfold neg in refl

pub round_neg : (f : Format) (s : Bool) (a c : ℕ) → neg (round f s a c) ≡ round f (not s) a c
round_neg f s a c = ap neg (round_is f s a c) ∙ units_neg f s _ _ ∙ sym (round_is f (not s) a c)
