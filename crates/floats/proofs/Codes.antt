-- Which patterns are NaNs, and what is no NaN. Cited by the functions on bit patterns. Assumes nothing.
use mathlib.Core.Path.{◌≡◌, refl, sym, ◌∙◌, subst}
use mathlib.Core.Bool.{Bool, false, not, true≢false}
use Prim.Native.Nat.{ℕ, ◌*◌, ◌%◌, ◌≤◌, ◌<◌}
use lib.Dec.{T, lt→ltb}
use lib.Ieee.{Float, nan, inf, fin, Format, hid, top, round, of_bits, to_bits, nan_bits, is_nan, ne, ones}
use lib.Ieee.Bits.{nan_bits_is, nan_bits_above, to_bits-of_bits}
use lib.Arith.{le→nltb}
use Rattle.floats.proofs.Laws.{round_as}

-- `x != x` is false
pub equal_number : (x : Float) → ne x x ≡ false → T (not (is_nan x))
unfolding ne is_nan
equal_number nan h = absurd (true≢false h)
equal_number (inf s) h = tt
equal_number (fin s m e) h = tt

-- ---- patterns with and without a sign
is_nan_fact : (x : Float) → T (is_nan x) → x ≡ nan
unfolding is_nan
is_nan_fact nan t = refl
is_nan_fact (inf s) t = absurd t
is_nan_fact (fin s m e) t = absurd t

pub nan_code : (f : Format) (b : ℕ) → ones f * hid f < b % top f → of_bits f b ≡ nan
nan_code f b h = is_nan_fact (of_bits f b) (subst T (sym (nan_bits_above f b) ∙ nan_bits_is f b) (lt→ltb (ones f * hid f) (b % top f) h))

pub no_nan_code : (f : Format) (b : ℕ) → b % top f ≤ ones f * hid f → T (not (nan_bits f b))
no_nan_code f b h = subst (λ (z : Bool). T (not z)) (sym (nan_bits_above f b)) (le→nltb (ones f * hid f) (b % top f) h)

pub code_back : (f : Format) (b : ℕ) → b < 2 * top f → b % top f ≤ ones f * hid f → to_bits f (of_bits f b) ≡ b
code_back f b h l = to_bits-of_bits f b h (subst (λ (z : Bool). T (not z)) (nan_bits_is f b) (no_nan_code f b l))

-- ---- what is no NaN
pub round_number : (f : Format) (s : Bool) (a c : ℕ) → T (not (is_nan (round f s a c)))
unfolding is_nan
round_number f s a c = round_as (λ (x : Float). T (not (is_nan x))) f s a c (λ m e. tt) tt
