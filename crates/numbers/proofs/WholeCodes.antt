-- What the roundings on bit patterns compute, against the definitions: the NaNs, the branches of the functions on sizes, the sign put back, and a value by its pattern.
-- Cited by the functions of `whole`, the `_bits` functions, `floor`, `ceil` and `round`. Assumes nothing.
use Rattle.std.proofs.Common.{◌≡◌, ℕ, ◌+◌, ◌-◌, ◌*◌, ◌/◌, ◌%◌, ◌^◌, ◌<◌, ◌≤◌, Bool, true, false, cond, not, T, leb, sym, refl, ap, ◌∙◌, subst, le_trans, le_of_eq, lt_of_lt_of_le, mod-eq_of_lt, add_comm, zero-add, arith, lit≤, le→leb, nltb→le, pow_pos, pow_mono, le-ltb, lt-ltb, ne_eqb}
use lib.Arith.{lt→nleb}
use lib.Ieee.{Float, nan, inf, fin, Format, binary64, of_bits, to_bits, is_nan, nan_bits, fits}
use lib.Ieee.Fits.{round-fits, nan-fits, inf-fits}
use lib.Ieee.Bits.{cond_no, nan_bits_is, nan_bits_above, of_bits-to_bits}
use Rattle.floats.proofs.Codes.{nan_code, code_back, round_number}
use Rattle.numbers.specs.Whole.{whole}
use Rattle.numbers.specs.Inner.{unit_of, whole_size, raised_below, nearest_below}
use Rattle.numbers.proofs.Codes.{shift_unit, cond_yes}
use Rattle.numbers.proofs.Directions.{Direction, whole_size_fact, size_bounded}

pub whole_number : (g : Bool → ℕ → ℕ → ℕ) (f : Format) (x : Float) → T (not (is_nan x)) → T (not (is_nan (whole g f x)))
unfolding is_nan whole
whole_number g f nan t = t
whole_number g f (inf s) t = tt
whole_number g f (fin s m e) t = round_number f s _ _

pub whole_fits : (g : Bool → ℕ → ℕ → ℕ) (x : Float) → T (fits binary64 (whole g binary64 x))
unfolding whole
whole_fits g nan = nan-fits binary64
whole_fits g (inf s) = inf-fits binary64 s
whole_fits g (fin s m e) = round-fits binary64 s _ _

-- ---- the roundings on bit patterns
pub whole_nan : (g : Bool → ℕ → ℕ → ℕ) (b : ℕ) → 0x7ff0_0000_0000_0000 < b % 2 ^ 63 → 0x7ff8_0000_0000_0000 ≡ to_bits binary64 (whole g binary64 (of_bits binary64 b))
whole_nan g b h = code ∙ ap (λ (z : Float). to_bits binary64 (whole g binary64 z)) (sym (nan_code binary64 b h))
  where
    code : 0x7ff8_0000_0000_0000 ≡ to_bits binary64 (whole g binary64 nan)
    code = unfold to_bits whole in refl

-- ---- the branches of the functions on sizes
module _ (below more : ℕ → ℕ) (p : ℕ) where
  pub size_whole : 0x4330_0000_0000_0000 ≤ p → p ≡ whole_size below more p
  size_whole h = sym (cond_yes (leb 0x4330_0000_0000_0000 p) p _ (le→leb 0x4330_0000_0000_0000 p h))

  under_whole : p < 0x4330_0000_0000_0000 → whole_size below more p ≡ cond (leb 0x3ff0_0000_0000_0000 p) ((p + more (unit_of p)) / unit_of p * unit_of p) (below p)
  under_whole h = cond_no (leb 0x4330_0000_0000_0000 p) p _ (lt→nleb 0x4330_0000_0000_0000 p h)

  pub size_unit : (u : ℕ) → p < 0x4330_0000_0000_0000 → 0x3ff0_0000_0000_0000 ≤ p → u ≡ unit_of p → (p + more u) / u * u ≡ whole_size below more p
  size_unit u h l e =
      ap (λ (z : ℕ). (p + more z) / z * z) e
      ∙ sym (under_whole h ∙ cond_yes (leb 0x3ff0_0000_0000_0000 p) ((p + more (unit_of p)) / unit_of p * unit_of p) (below p) (le→leb 0x3ff0_0000_0000_0000 p l))

  pub size_under : p < 0x3ff0_0000_0000_0000 → below p ≡ whole_size below more p
  size_under l =
      sym (under_whole (lt_of_lt_of_le l (lit≤ tt)) ∙ cond_no (leb 0x3ff0_0000_0000_0000 p) ((p + more (unit_of p)) / unit_of p * unit_of p) (below p) (lt→nleb 0x3ff0_0000_0000_0000 p l))

-- below 1
pub none_raised : (p : ℕ) → p ≡ 0 → 0 ≡ raised_below p
none_raised p e = subst (λ (z : ℕ). 0 ≡ raised_below z) (sym e) refl

pub some_raised : (p : ℕ) → (p ≡ 0 → ⊥) → 0x3ff0_0000_0000_0000 ≡ raised_below p
some_raised p h = rw (ne_eqb p 0 h)

pub low_nearest : (p : ℕ) → p < 0x3fe0_0000_0000_0000 → 0 ≡ nearest_below p
low_nearest p h = rw (lt-ltb p 0x3fe0_0000_0000_0000 h)

pub high_nearest : (p : ℕ) → 0x3fe0_0000_0000_0000 ≤ p → 0x3ff0_0000_0000_0000 ≡ nearest_below p
high_nearest p h = rw (le-ltb p 0x3fe0_0000_0000_0000 h)

-- the unit as the code has it
pub unit_is : (p u : ℕ) → 0x3ff0_0000_0000_0000 ≤ p → u ≡ 1 * 2 ^ (1075 - p / 2 ^ 52) % 2 ^ 64 → u ≡ unit_of p
unit_is p u l e = e ∙ shift_unit (1075 - p / 2 ^ 52) (omega arith)

pub unit_pos : (p u : ℕ) → u ≡ unit_of p → 0 < u
unit_pos p u e = subst (λ (z : ℕ). 0 < z) (sym e) (pow_pos (1075 - p / 2 ^ 52))

pub unit_most : (p u : ℕ) → 0x3ff0_0000_0000_0000 ≤ p → u ≡ unit_of p → u ≤ 2 ^ 52
unit_most p u l e = le_trans (le_of_eq e) (pow_mono {i = 1075 - p / 2 ^ 52} {j = 52} (omega arith))

-- ---- with the sign put back
module _ (g : Bool → ℕ → ℕ → ℕ) (h : ℕ → ℕ → ℕ) (below more : ℕ → ℕ) (d : Direction h below more) where
  sized : (s : Bool) → ((a c : ℕ) → g s a c ≡ h a c) → (p y c : ℕ) → p ≤ 0x7ff0_0000_0000_0000 → y ≡ whole_size below more p → c ≡ cond s (2 ^ 63) 0 + y → c ≡ to_bits binary64 (whole g binary64 (of_bits binary64 (cond s (2 ^ 63) 0 + p)))
  sized s is p y c l e k =
      let b : y ≤ 0x7ff0_0000_0000_0000 = le_trans (le_of_eq e) (size_bounded h below more d p l) in
      k ∙ sym (code_back binary64 (cond s (2 ^ 63) 0 + y) (small s y b) (subst (λ (z : ℕ). z ≤ 0x7ff0_0000_0000_0000) (sym (off s y b)) b))
      ∙ ap (to_bits binary64) (ap (λ (z : ℕ). of_bits binary64 (cond s (2 ^ 63) 0 + z)) e ∙ whole_size_fact g s h is below more d p l)
    where
      small : (s : Bool) (y : ℕ) → y ≤ 0x7ff0_0000_0000_0000 → cond s (2 ^ 63) 0 + y < 2 ^ 64
      small true y b = omega arith
      small false y b = omega arith

      off : (s : Bool) (y : ℕ) → y ≤ 0x7ff0_0000_0000_0000 → (cond s (2 ^ 63) 0 + y) % 2 ^ 63 ≡ y
      off true y b = omega arith
      off false y b = omega arith

  pub whole_plus : ((a c : ℕ) → g false a c ≡ h a c) → (b y : ℕ) → b % 2 ^ 63 ≤ 0x7ff0_0000_0000_0000 → y ≡ whole_size below more (b % 2 ^ 63) → b < 2 ^ 63 → y ≡ to_bits binary64 (whole g binary64 (of_bits binary64 b))
  whole_plus is b y l e w = sized false is (b % 2 ^ 63) y y l e (sym (zero-add y)) ∙ ap (λ (z : ℕ). to_bits binary64 (whole g binary64 (of_bits binary64 z))) (zero-add (b % 2 ^ 63) ∙ mod-eq_of_lt w)

  pub whole_minus : ((a c : ℕ) → g true a c ≡ h a c) → (b y : ℕ) → b < 2 ^ 64 → b % 2 ^ 63 ≤ 0x7ff0_0000_0000_0000 → y ≡ whole_size below more (b % 2 ^ 63) → 2 ^ 63 ≤ b → y + 2 ^ 63 ≡ to_bits binary64 (whole g binary64 (of_bits binary64 b))
  whole_minus is b y n l e w = sized true is (b % 2 ^ 63) y (y + 2 ^ 63) l e (add_comm y (2 ^ 63)) ∙ ap (λ (z : ℕ). to_bits binary64 (whole g binary64 (of_bits binary64 z))) (back b n w)
    where
      back : (b : ℕ) → b < 2 ^ 64 → 2 ^ 63 ≤ b → 2 ^ 63 + b % 2 ^ 63 ≡ b
      back b n w = omega arith

-- ---- a value by its pattern
pub whole_back : (g : Bool → ℕ → ℕ → ℕ) (x : Float) (r : ℕ) → T (fits binary64 x) → r ≡ to_bits binary64 (whole g binary64 (of_bits binary64 (to_bits binary64 x))) → of_bits binary64 r ≡ whole g binary64 x
whole_back g x r t e = ap (of_bits binary64) (e ∙ ap (λ (z : Float). to_bits binary64 (whole g binary64 z)) (of_bits-to_bits binary64 x t)) ∙ of_bits-to_bits binary64 (whole g binary64 x) (whole_fits g x)

pub whole_read : (g : Bool → ℕ → ℕ → ℕ) (x : Float) (r : ℕ) → T (fits binary64 x) → T (not (is_nan x)) → r ≡ to_bits binary64 (whole g binary64 (of_bits binary64 (to_bits binary64 x))) → T (not (nan_bits binary64 r))
whole_read g x r t n e = subst (λ (z : Bool). T (not z)) (sym (nan_bits_is binary64 r ∙ ap is_nan (whole_back g x r t e))) (whole_number g binary64 x n)

pub nan_whole : (g : Bool → ℕ → ℕ → ℕ) (x : Float) → x ≡ nan → nan ≡ whole g binary64 x
unfolding whole
nan_whole g x e = sym (ap (whole g binary64) e)

-- a number's pattern is no NaN's
pub number_code : (x : Float) → T (fits binary64 x) → T (not (is_nan x)) → to_bits binary64 x % 2 ^ 63 ≤ 0x7ff0_0000_0000_0000
number_code x t n =
    let b = to_bits binary64 x in
    nltb→le 0x7ff0_0000_0000_0000 (b % 2 ^ 63) (subst (λ (z : Bool). T (not z)) (sym (sym (nan_bits_above binary64 b) ∙ nan_bits_is binary64 b ∙ ap is_nan (of_bits-to_bits binary64 x t))) n)
