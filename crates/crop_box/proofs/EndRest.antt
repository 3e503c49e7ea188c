-- What a number leaves of the side, as a double: exact where the number is above half of the side and not past it, below 0 where it is past it, and never below a double
-- that is no larger than the exact difference. Cited by EndLaws. Assumes nothing.
use mathlib.Core.Path.{◌≡◌, refl, sym, ap, ◌∙◌, subst}
use mathlib.Core.Bool.{true, false, true≢false, false≢true}
use Prim.Native.Nat.{ℕ, zero, suc, ◌+◌, ◌-◌, ◌*◌, ◌^◌, ◌≤◌, ◌<◌, zero-le}
use native.Mathlib.Nat.{le_trans, le_of_eq, lt_of_le_of_lt, not-le_of_lt, zero-lt-suc, zero-mul, mul-one, one-mul, mul-pos, sub-le, sub-zero, add-zero}
use native.Mathlib.Omega.{arith}
use lib.IntN.{pos, negsuc}
use lib.Dec.{T, leb→le, lit≤, lit<}
use borrow.Author.Tests.{lt-ltb, le-ltb}
use lib.Ieee.{Float, nan, inf, fin, binary64, low, up, down, round, sum, sub, neg, lt, le, fits, of_bits}
use lib.Ieee.Fits.{down_pos}
use lib.Ieee.Exact.{HasValue}
use lib.Ieee.Back.{round_whole}
use lib.Ieee.Order.{round_mono}
use lib.Ieee.Positive.{num, den, first_pos}
use Rattle.floats.specs.Within.{Within}
use Rattle.floats.specs.Doubles.{double}
use Rattle.floats.proofs.Laws.{round_fit, round_neg, fits_digits, pow_le_cancel, exact_down}
use Rattle.floats.proofs.Value.{sub_values, or_le, like_signs}
use Rattle.floats.proofs.Within.{unsigned, unlike_signs}
use Rattle.floats.proofs.Integers.{whole_val}
use Rattle.crop_box.specs.End.{FromZero}
use Rattle.crop_box.proofs.FromZero.{none_left, minus_zero, plain, within_plain, lt_plain, le_plain}

-- ---- what x leaves of the side n: rounded, and exact where x is from n / 2 to n
pub rest : (n : ℕ) (x : Float) → n ≤ 2 ^ 53 → FromZero x → sub binary64 (double n) x ≡ sum binary64 false (n * den x) true (num x) (den x)
rest n nan M h = absurd (false≢true h.0)
rest n (inf s) M h = absurd (false≢true h.0)
rest n (fin false m e) M h =
    sub_values binary64 (double n) (fin false m e) false false n 1 (m * up e) (down e) (zero-lt-suc 0) (down_pos e) (whole_val n M) (refl, refl)
    ∙ ap (λ (k : ℕ). sum binary64 false (n * down e) true k (1 * down e)) (mul-one (m * up e)) ∙ ap (λ (k : ℕ). sum binary64 false (n * down e) true (m * up e) k) (one-mul (down e))
rest n (fin true m e) M h =
    let z = minus_zero m e h in
    sub_values binary64 (double n) (fin true m e) false true n 1 (m * up e) (down e) (zero-lt-suc 0) (down_pos e) (whole_val n M) (refl, refl)
    ∙ ap (λ (k : ℕ). sum binary64 false (n * down e) false (k * 1) (1 * down e)) z ∙ ap (λ (k : ℕ). sum binary64 false (n * down e) false 0 k) (one-mul (down e))
    ∙ no_less (n * down e) (down e) ∙ ap (λ (k : ℕ). sum binary64 false (n * down e) true k (down e)) (sym z)
  where
    no_less : (a c : ℕ) → sum binary64 false a false 0 c ≡ sum binary64 false a true 0 c
    no_less a c = like_signs binary64 a 0 c ∙ ap (λ (k : ℕ). round binary64 false k c) (add-zero a ∙ sym (sub-zero a)) ∙ sym (unlike_signs binary64 a 0 c zero-le)

pub exact_rest : (n : ℕ) (x : Float) → n ≤ 2 ^ 53 → T (fits binary64 x) → FromZero x → n * den x < 2 * num x → HasValue (round binary64 false (n * den x - num x) (den x)) false (n * den x - num x) (den x)
exact_rest n nan M t X h = absurd (false≢true X.0)
exact_rest n (inf s) M t X h = absurd (false≢true X.0)
exact_rest n (fin s zero e) M t X h = absurd (not-le_of_lt h (le_trans (le_of_eq (ap (λ (z : ℕ). 2 * z) (zero-mul (up e)))) zero-le))
exact_rest n (fin s (suc m) (pos k)) M t X h = round_whole binary64 false (n * 1 - suc m * 2 ^ k) (le_trans (sub-le (n * 1) (suc m * 2 ^ k)) (le_trans (le_of_eq (mul-one n)) M))
exact_rest n (fin s (suc m) (negsuc k)) M t X h =
    let d = fits_digits binary64 s m (negsuc k) t in
    let r = n * 2 ^ suc k - suc m * 1 in
    subst (λ (z : ℕ). HasValue (round binary64 false z (2 ^ suc k)) false z (2 ^ suc k)) (mul-one r)
    (exact_down binary64 false r k (lt_of_le_of_lt (less (n * 2 ^ suc k) (suc m * 1) (suc m) (mul-one (suc m)) h) d.0) (pow_le_cancel (suc k) (low binary64) d.1))
  where
    less : (a b m : ℕ) → b ≡ m → a < 2 * b → a - b ≤ m
    less a b m e h = omega arith

-- ---- x past n alone: what is left is below 0
-- the unit of the last place of x, or 1, is a double
pub unit_value : (x : Float) → T (fits binary64 x) → 0 < num x → HasValue (round binary64 false 1 (den x)) false 1 (den x)
unit_value nan t h = round_whole binary64 false 1 (lit≤ tt)
unit_value (inf s) t h = round_whole binary64 false 1 (lit≤ tt)
unit_value (fin s zero e) t h = absurd (not-le_of_lt h (le_of_eq (zero-mul (up e))))
unit_value (fin s (suc m) (pos k)) t h = round_whole binary64 false 1 (lit≤ tt)
unit_value (fin s (suc m) (negsuc k)) t h = exact_down binary64 false 1 k (lit< tt) (pow_le_cancel (suc k) (low binary64) (fits_digits binary64 s m (negsuc k) t).1)

abbrev pub Above : Float → Type 0
Above nan = ⊥
Above (inf s) = s ≡ false
Above (fin s m e) = (s ≡ false) × (0 < m * up e)

pub above : (v w : Float) (c : ℕ) → HasValue v false 1 c → T (unsigned w) → T (le v w) → Above w
unfolding le
above nan w c v u h = absurd v
above (inf s) w c v u h = absurd v
above (fin s k d) nan c v u h = absurd u
above (fin s k d) (inf true) c v u h = absurd u
above (fin s k d) (inf false) c v u h = refl
above (fin s k d) (fin true m e) c v u h = absurd u
above (fin true k d) (fin false m e) c v u h = absurd (true≢false v.0)
above (fin false k d) (fin false m e) c v u h =
    let l : k * up d * down e ≤ m * up e * down d = leb→le _ _ (subst T (or_le (k * up d * down e) (m * up e * down d)) h) in
    let p : 0 < k * up d = first_pos (k * up d) c (subst (λ (z : ℕ). 0 < z) (sym (v.1 ∙ one-mul (down d))) (down_pos d)) in
    (refl, first_pos (m * up e) (down d) (lt_of_lt_le (mul-pos p (down_pos e)) l))
  where
    lt_of_lt_le : {a b : ℕ} → 0 < a → a ≤ b → 0 < b
    lt_of_lt_le h k = omega arith

pub below_zero : (w y : Float) → Above w → FromZero y → lt (neg w) y ≡ true
unfolding neg lt of_bits
below_zero nan y W Y = absurd W
below_zero (inf s) nan W Y = absurd (false≢true Y.0)
below_zero (inf s) (inf t) W Y = absurd (false≢true Y.0)
below_zero (inf true) (fin t k d) W Y = absurd (true≢false W)
below_zero (inf false) (fin t k d) W Y = refl
below_zero (fin s m e) nan W Y = absurd (false≢true Y.0)
below_zero (fin s m e) (inf t) W Y = absurd (false≢true Y.0)
below_zero (fin true m e) (fin t k d) W Y = absurd (true≢false W.0)
below_zero (fin false m e) (fin false k d) W Y = lt-ltb 0 _ (more (m * up e * down d) (k * up d * down e) (mul-pos W.1 (down_pos d)))
  where
    more : (a b : ℕ) → 0 < a → 0 < a + b
    more a b h = omega arith
below_zero (fin false m e) (fin true k d) W Y = lt-ltb _ _ (more (m * up e * down d) (k * up d * down e) (mul-pos W.1 (down_pos d)) (ap (λ (z : ℕ). z * down e) (none_left (k * up d) _ Y.1) ∙ zero-mul (down e)))
  where
    more : (a b : ℕ) → 0 < a → b ≡ 0 → b < a
    more a b h e = omega arith

pub over : (a b c : ℕ) → a < b → sum binary64 false a true b c ≡ neg (round binary64 false (b - a) c)
unfolding sum
over a b c h = rw (lt-ltb a b h) (sym (round_neg binary64 false (b - a) c))

-- y is no larger than a rounded number if it is no larger than the number
pub not_passed : (y : Float) (n d c : ℕ) → 0 < c → T (fits binary64 y) → FromZero y → Within (round binary64 false d c) n → num y * c ≤ d * den y → lt (round binary64 false d c) y ≡ false
not_passed y n d c C t Y W h = lt_plain (round binary64 false d c) y (within_plain _ n W) (plain y Y) ∙ le-ltb _ _ (go y t Y h)
  where
    go : (y : Float) → T (fits binary64 y) → FromZero y → num y * c ≤ d * den y → num y * den (round binary64 false d c) ≤ num (round binary64 false d c) * den y
    go nan t Y h = absurd (false≢true Y.0)
    go (inf s) t Y h = absurd (false≢true Y.0)
    go (fin true m e) t Y h = le_trans (le_of_eq (ap (λ (z : ℕ). z * den (round binary64 false d c)) (minus_zero m e Y) ∙ zero-mul (den (round binary64 false d c)))) zero-le
    go (fin false m e) t Y h =
        le_plain (fin false m e) (round binary64 false d c) (plain (fin false m e) Y) (within_plain _ n W)
        (subst (λ (z : Float). T (le z (round binary64 false d c))) (round_fit binary64 false m e t) (round_mono binary64 (m * up e) (down e) d c (down_pos e) C h))
