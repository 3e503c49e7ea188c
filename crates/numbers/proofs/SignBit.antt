-- The sign bit of a pattern: clearing it gives the absolute value. Cited by `abs`. Assumes nothing.
use Rattle.std.proofs.Common.{◌≡◌, ℕ, zero, suc, ◌+◌, ◌-◌, ◌*◌, ◌/◌, ◌%◌, ◌^◌, ◌<◌, Bool, true, false, not, T, ℤ, sym, refl, ap, ◌∙◌, subst, mod-eq_of_lt, arith}
use native.Mathlib.Nat.{add-mod_left}
use lib.Ieee.{Float, nan, inf, fin, Format, binary32, binary64, prec, low, hid, top, size, up, down, neg, of_bits, to_bits, nan_bits, is_nan, fits}
use lib.Ieee.Fits.{neg-fits}
use lib.Ieee.Bits.{of_bits-to_bits, to_bits-lt, nan_bits_is}
use Rattle.numbers.specs.Whole.{abs}
use Rattle.floats.proofs.Laws.{to_bits_is}

-- ---- the sign bit
with_sign : (f : Format) (m : ℕ) (e : ℤ) → to_bits f (fin true m e) ≡ top f + to_bits f (fin false m e)
with_sign f m e = go (top f) ((size N - prec f) * hid f) (N / 2 ^ (size N - prec f)) (to_bits f (fin true m e)) (to_bits f (fin false m e)) (to_bits_is f true m e) (to_bits_is f false m e)
  where
    N : ℕ
    N = m * up e * 2 ^ low f / down e

    go : (t k q a b : ℕ) → a ≡ t + k + q → b ≡ 0 + k + q → a ≡ t + b
    go t k q a b p r = omega arith

less_top : (t a b : ℕ) → a ≡ t + b → a < 2 * t → b < t
less_top t a b p h = omega arith

rest_lt_true : (f : Format) (m : ℕ) (e : ℤ) → T (fits f (fin true m e)) → to_bits f (fin false m e) < top f
rest_lt_true f m e t = less_top (top f) (to_bits f (fin true m e)) (to_bits f (fin false m e)) (with_sign f m e) (to_bits-lt f (fin true m e) t)

rest_lt : (f : Format) (s : Bool) (m : ℕ) (e : ℤ) → T (fits f (fin s m e)) → to_bits f (fin false m e) < top f
unfolding neg
rest_lt f true m e t = rest_lt_true f m e t
rest_lt f false m e t = rest_lt_true f m e (neg-fits f (fin false m e) t)

inf_cleared : (f : Format) (s : Bool) → to_bits f (inf s) % top f ≡ to_bits f (inf false)
unfolding to_bits
inf_cleared binary32 true = refl
inf_cleared binary32 false = refl
inf_cleared binary64 true = refl
inf_cleared binary64 false = refl

add_mod_top : (t r : ℕ) → r < t → (t + r) % t ≡ r
add_mod_top t r h = add-mod_left t r ∙ mod-eq_of_lt h

pub cleared : (f : Format) (x : Float) → T (fits f x) → T (not (is_nan x)) → to_bits f x % top f ≡ to_bits f (abs x)
unfolding abs is_nan
cleared f nan t n = absurd n
cleared f (inf s) t n = inf_cleared f s
cleared f (fin true m e) t n = ap (λ (z : ℕ). z % top f) (with_sign f m e) ∙ add_mod_top (top f) (to_bits f (fin false m e)) (rest_lt f true m e t)
cleared f (fin false m e) t n = mod-eq_of_lt (rest_lt f false m e t)

abs_fits : (f : Format) (x : Float) → T (fits f x) → T (fits f (abs x))
unfolding abs fits
abs_fits f nan t = tt
abs_fits f (inf s) t = tt
abs_fits f (fin s zero e) t = t
abs_fits f (fin s (suc m) e) t = t

abs_number : (x : Float) → T (not (is_nan x)) → T (not (is_nan (abs x)))
unfolding abs is_nan
abs_number nan n = n
abs_number (inf s) n = tt
abs_number (fin s m e) n = tt

pub cleared_is_abs : (f : Format) (x : Float) → T (fits f x) → T (not (is_nan x)) → of_bits f (to_bits f x % top f) ≡ abs x
cleared_is_abs f x t n = ap (of_bits f) (cleared f x t n) ∙ of_bits-to_bits f (abs x) (abs_fits f x t)

pub cleared_number : (f : Format) (x : Float) → T (fits f x) → T (not (is_nan x)) → T (not (nan_bits f (to_bits f x % top f)))
cleared_number f x t n = subst (λ (b : Bool). T (not b)) (sym (nan_bits_is f (to_bits f x % top f) ∙ ap is_nan (cleared_is_abs f x t n))) (abs_number x n)
