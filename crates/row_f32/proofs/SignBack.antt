-- The sign put back on a result by its bit, also where the result is a zero or an infinity. Cited by `Narrowed`. Assumes nothing.
use mathlib.Core.Path.{◌≡◌, refl, sym, ap, ◌∙◌, subst}
use Prim.Native.Nat.{ℕ, zero, suc, ◌+◌, ◌-◌, ◌*◌, ◌/◌, ◌^◌, ◌<◌}
use native.Mathlib.Nat.{add-zero}
use native.Mathlib.Omega.{arith}
use mathlib.Core.Bool.{Bool, true, false, not, cond}
use lib.IntN.{ℤ}
use lib.Bits.{bit_or, or_block, or_zero_r}
use lib.Dec.{T}
use lib.Pow.{pow_pos}
use lib.Ieee.{Float, nan, inf, fin, Format, binary64, prec, low, hid, top, up, down, size, of_bits, to_bits, is_nan, fits}
use lib.Ieee.Exact.{HasValue}
use lib.Ieee.Bits.{of_bits-to_bits, to_bits-lt}
use Rattle.floats.proofs.Laws.{fits_unique, to_bits_is}

-- ---- the sign put on
fits_sign : (f : Format) (s t : Bool) (m : ℕ) (e : ℤ) → T (fits f (fin s m e)) → T (fits f (fin t m e))
unfolding fits
fits_sign f s t zero e h = h
fits_sign f s t (suc m) e h = h

abbrev pub bit : Bool → ℕ
bit s = cond s 1 0

or_bit : (t s : Bool) → (T t → T s) → bit_or (bit t) (bit s) ≡ bit s
or_bit true true h = refl
or_bit true false h = absurd (h tt)
or_bit false true h = refl
or_bit false false h = refl

top_bit : (s : Bool) (A B : ℕ) → cond s (2 ^ 63) 0 + A + B ≡ bit s * 2 ^ 63 + (A + B)
top_bit true A B = omega arith
top_bit false A B = omega arith

or_code : (t s : Bool) (A B b : ℕ) → (T t → T s) → A + B < 2 ^ 63 → b / 2 ^ 63 ≡ bit s → bit_or (cond t (2 ^ 63) 0 + A + B) (b / 2 ^ 63 * 2 ^ 63) ≡ cond s (2 ^ 63) 0 + A + B
or_code t s A B b h l e =
    ap (λ (z : ℕ). bit_or z (b / 2 ^ 63 * 2 ^ 63)) (top_bit t A B)
    ∙ ap (λ (z : ℕ). bit_or (bit t * 2 ^ 63 + (A + B)) z) (ap (λ (z : ℕ). z * 2 ^ 63) e ∙ sym (add-zero (bit s * 2 ^ 63)))
    ∙ or_block 63 (bit t) (bit s) (A + B) 0 l (pow_pos 63)
    ∙ ap (λ (z : ℕ). z * 2 ^ 63 + bit_or (A + B) 0) (or_bit t s h)
    ∙ ap (λ (z : ℕ). bit s * 2 ^ 63 + z) (or_zero_r (A + B))
    ∙ sym (top_bit s A B)

low_part : (A B : ℕ) → 2 ^ 63 + A + B < 2 * 2 ^ 63 → A + B < 2 ^ 63
low_part A B h = omega arith

with_sign : (t s : Bool) (m : ℕ) (e : ℤ) (b : ℕ) → T (fits binary64 (fin t m e)) → (T t → T s) → b / 2 ^ 63 ≡ bit s → of_bits binary64 (bit_or (to_bits binary64 (fin t m e)) (b / 2 ^ 63 * 2 ^ 63)) ≡ fin s m e
with_sign t s m e b F h k =
    let n = m * up e * 2 ^ low binary64 / down e in
    let A = (size n - prec binary64) * hid binary64 in
    let B = n / 2 ^ (size n - prec binary64) in
    let l : A + B < 2 ^ 63 = low_part A B (subst (λ (z : ℕ). z < 2 * top binary64) (to_bits_is binary64 true m e) (to_bits-lt binary64 (fin true m e) (fits_sign binary64 t true m e F))) in
    ap (of_bits binary64) (ap (λ (z : ℕ). bit_or z (b / 2 ^ 63 * 2 ^ 63)) (to_bits_is binary64 t m e) ∙ or_code t s A B b h l k ∙ sym (to_bits_is binary64 s m e))
    ∙ of_bits-to_bits binary64 (fin s m e) (fits_sign binary64 t s m e F)

pub inf_sign : (s : Bool) (b : ℕ) → b / 2 ^ 63 ≡ bit s → of_bits binary64 (bit_or (to_bits binary64 (inf s)) (b / 2 ^ 63 * 2 ^ 63)) ≡ inf s
unfolding to_bits of_bits
inf_sign s b k = ap (λ (z : ℕ). of_bits binary64 (bit_or (to_bits binary64 (inf s)) (z * 2 ^ 63))) k ∙ go s
  where
    go : (s : Bool) → of_bits binary64 (bit_or (to_bits binary64 (inf s)) (bit s * 2 ^ 63)) ≡ inf s
    go true = refl
    go false = refl

-- ---- a finite result
pub settle : (z v : Float) (t s : Bool) (W L b : ℕ) → 0 < L → HasValue z t W L → T (fits binary64 z) → (T t → T s) → b / 2 ^ 63 ≡ bit s → HasValue v s W L → T (fits binary64 v)
    → T (not (is_nan z)) × (of_bits binary64 (bit_or (to_bits binary64 z) (b / 2 ^ 63 * 2 ^ 63)) ≡ v)
unfolding is_nan
settle nan v t s W L b P p F h k q G = absurd p
settle (inf r) v t s W L b P p F h k q G = absurd p
settle (fin r m e) v t s W L b P p F h k q G =
    (tt, with_sign r s m e b F (λ x. h (subst T p.0 x)) k ∙ fits_unique binary64 (fin s m e) v s W L P (fits_sign binary64 r s m e F) G (refl, p.1) q)
