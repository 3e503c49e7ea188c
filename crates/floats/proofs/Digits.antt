-- Rounding the fraction D * 2 ^ j / 2 ^ l to a format drops g of D's digits, and the result stands k places above the format's smallest; the value
-- that a pattern stands for. Cited by both narrowings. Assumes nothing.
use mathlib.Core.Path.{◌≡◌, refl, sym, ap, ◌∙◌, subst}
use mathlib.Core.Logic.{◌⊎◌, inl, inr}
use mathlib.Core.Bool.{Bool, cond}
use Prim.Native.Nat.{ℕ, suc, ◌+◌, ◌-◌, ◌*◌, ◌/◌, ◌%◌, ◌^◌, ◌≤◌, ◌<◌, min, compare, Ordering}
use native.Mathlib.Nat.{le-suc, le_trans, le_of_eq, le_of_lt, lt_of_lt_of_le, lt_of_not-le, not-le_of_lt, zero-lt-suc, add_comm, mul_assoc, mul-le-mul_right, mul-pos, div-lt_iff_lt-mul, le-div_iff_mul-le, div-eq_of_lt, mod-eq_of_lt, mul-add-div_right, mul-add-mod_self_right, ne_of_lt}
use native.Mathlib.Omega.{arith}
use lib.Dec.{T, is_le, compare_is_eq, eqb→eq, leb→le, le→leb}
use lib.Pow.{pow-add, pow_pos, pow_mono, shl_lt, shr_lt}
use lib.Ieee.{Float, Format, prec, low, hid, ones, top, size, nearest, units, round, of_bits}
use lib.Ieee.Digits.{size-lt, size-le}
use lib.Ieee.Fits.{eq→eqb, two, nearest-le, round_is}
use lib.Ieee.Exact.{HasValue, odd_sign}
use lib.Ieee.Nearest.{closest, closest_same, nearest-ge}
use Rattle.floats.proofs.Pattern.{fields, field_zero, field_mid, units_bits}

-- ---- what `compare` gives
pub compare_lt : (a b : ℕ) → a < b → compare a b ≡ Ordering.lt
compare_lt a b h = go (compare a b) (le→leb a b (le_of_lt h)) (λ t. ne_of_lt h (eqb→eq a b t))
  where
    go : (o : Ordering) → T (is_le o) → (T (compare_is_eq o) → ⊥) → o ≡ Ordering.lt
    go Ordering.lt h n = refl
    go Ordering.eq h n = absurd (n tt)
    go Ordering.gt h n = absurd h

pub compare_eq : (a b : ℕ) → a ≡ b → compare a b ≡ Ordering.eq
compare_eq a b h = go (compare a b) (eq→eqb h)
  where
    go : (o : Ordering) → T (compare_is_eq o) → o ≡ Ordering.eq
    go Ordering.lt h = absurd h
    go Ordering.eq h = refl
    go Ordering.gt h = absurd h

pub compare_gt : (a b : ℕ) → b < a → compare a b ≡ Ordering.gt
compare_gt a b h = go (compare a b) (λ t. not-le_of_lt h (leb→le a b t))
  where
    go : (o : Ordering) → (T (is_le o) → ⊥) → o ≡ Ordering.gt
    go Ordering.lt n = absurd (n tt)
    go Ordering.eq n = absurd (n tt)
    go Ordering.gt n = refl

size_gt : (n j : ℕ) → 2 ^ j ≤ n → j < size n
size_gt n j h = lt_of_not-le (λ (g : size n ≤ j). not-le_of_lt (lt_of_lt_of_le (size-lt n) (pow_mono g)) h)

module _ (f : Format) (D j l g k : ℕ) (small : D < 2 ^ (prec f + g)) (lead : (k ≡ 0) ⊎ (2 ^ (prec f - 1 + g) ≤ D)) (e : l + k ≡ g + (j + low f)) where
  scaled : D * 2 ^ j * 2 ^ low f ≡ D * 2 ^ (j + low f)
  scaled = mul_assoc D (2 ^ j) (2 ^ low f) ∙ ap (λ (z : ℕ). D * z) (sym (pow-add 2 j (low f)))

  shift : (a : ℕ) → 2 ^ (a + k) * 2 ^ l ≡ 2 ^ (a + g) * 2 ^ (j + low f)
  shift a = sym (pow-add 2 (a + k) l) ∙ ap (λ (z : ℕ). 2 ^ z) (turn a k l g (j + low f) e) ∙ pow-add 2 (a + g) (j + low f)
    where
      turn : (a k l g m : ℕ) → l + k ≡ g + m → a + k + l ≡ a + g + m
      turn a k l g m e = omega arith

  wide : size (D * 2 ^ j * 2 ^ low f / 2 ^ l) ≤ prec f + k
  wide =
      size-le (D * 2 ^ j * 2 ^ low f / 2 ^ l) (prec f + k)
      ((div-lt_iff_lt-mul (pow_pos l)).1
      (subst (λ (z : ℕ). z < 2 ^ (prec f + k) * 2 ^ l) (sym scaled)
      (subst (λ (z : ℕ). D * 2 ^ (j + low f) < z) (pow-add 2 (prec f + g) (j + low f) ∙ sym (shift (prec f))) (shl_lt (prec f + g) (j + low f) small))))

  dropped : size (D * 2 ^ j * 2 ^ low f / 2 ^ l) - prec f ≡ k
  dropped = go lead
    where
      none : (z p k : ℕ) → z ≤ p + k → k ≡ 0 → z - p ≡ k
      none z p k h e = omega arith

      some : (z p k : ℕ) → 2 ≤ p → z ≤ p + k → p - 1 + k < z → z - p ≡ k
      some z p k t h l = omega arith

      go : (k ≡ 0) ⊎ (2 ^ (prec f - 1 + g) ≤ D) → size (D * 2 ^ j * 2 ^ low f / 2 ^ l) - prec f ≡ k
      go (inl z) = none (size (D * 2 ^ j * 2 ^ low f / 2 ^ l)) (prec f) k wide z
      go (inr h) =
          some (size (D * 2 ^ j * 2 ^ low f / 2 ^ l)) (prec f) k (two f) wide
          (size_gt (D * 2 ^ j * 2 ^ low f / 2 ^ l) (prec f - 1 + k)
          ((le-div_iff_mul-le (pow_pos l)).1 (le_trans (le_of_eq (shift (prec f - 1))) (le_trans (mul-le-mul_right (2 ^ (j + low f)) h) (le_of_eq (sym scaled))))))

  kept_is : closest (D * 2 ^ j * 2 ^ low f) (2 ^ l * 2 ^ k) ≡ closest D (2 ^ g)
  kept_is =
      closest_same (D * 2 ^ j * 2 ^ low f) (2 ^ l * 2 ^ k) D (2 ^ g) (mul-pos (pow_pos l) (pow_pos k)) (pow_pos g)
      (ap (λ (z : ℕ). z * 2 ^ g) scaled ∙ mul_assoc D (2 ^ (j + low f)) (2 ^ g)
      ∙ ap (λ (z : ℕ). D * z) (sym (pow-add 2 (j + low f) g) ∙ ap (λ (z : ℕ). 2 ^ z) (add_comm (j + low f) g ∙ sym e) ∙ pow-add 2 l k))

  pub round_digits : (s : Bool) → round f s (D * 2 ^ j) (2 ^ l) ≡ units f s (closest D (2 ^ g)) k
  round_digits s =
      round_is f s (D * 2 ^ j) (2 ^ l)
      ∙ ap (λ (z : ℕ). units f s (closest (D * 2 ^ j * 2 ^ low f) (2 ^ l * 2 ^ z)) z) dropped
      ∙ ap (λ (z : ℕ). units f s z k) kept_is

  kept_top : closest D (2 ^ g) ≤ 2 ^ prec f
  kept_top = le_trans (nearest-le (D / 2 ^ g) (compare (D % 2 ^ g * 2) (2 ^ g))) (shr_lt (prec f) g small)

  kept_lead : (k ≡ 0) ⊎ (hid f ≤ closest D (2 ^ g))
  kept_lead = go lead
    where
      go : (k ≡ 0) ⊎ (2 ^ (prec f - 1 + g) ≤ D) → (k ≡ 0) ⊎ (hid f ≤ closest D (2 ^ g))
      go (inl z) = inl z
      go (inr h) =
          inr (le_trans ((le-div_iff_mul-le (pow_pos g)).1 (le_trans (le_of_eq (sym (pow-add 2 (prec f - 1) g))) h)) (nearest-ge (D / 2 ^ g) (compare (D % 2 ^ g * 2) (2 ^ g))))

  pub round_bits_fact : (s : Bool) → of_bits f (cond s (top f) 0 + min (k * hid f + closest D (2 ^ g)) (ones f * hid f)) ≡ round f s (D * 2 ^ j) (2 ^ l)
  round_bits_fact s = units_bits f s (closest D (2 ^ g)) k kept_top kept_lead ∙ sym (round_digits s)

pub value_zero : (f : Format) (s : Bool) (t : ℕ) → t < hid f → HasValue (of_bits f (cond s (top f) 0 + (0 * hid f + t))) s (t * 2 ^ 0) (2 ^ low f)
value_zero f s t h = subst (λ (v : Float). HasValue v s (t * 2 ^ 0) (2 ^ low f)) (sym (fields f s 0 t (zero-lt-suc (ones f)) h ∙ field_zero f s t)) (odd_sign (prec f) s t 0 (low f))

pub value_mid : (f : Format) (s : Bool) (x t : ℕ) → t < hid f → suc x < ones f → HasValue (of_bits f (cond s (top f) 0 + (suc x * hid f + t))) s ((hid f + t) * 2 ^ x) (2 ^ low f)
value_mid f s x t h l =
    subst (λ (v : Float). HasValue v s ((hid f + t) * 2 ^ x) (2 ^ low f)) (sym (fields f s (suc x) t (lt_of_lt_of_le l (le-suc (ones f))) h ∙ field_mid f s x t l)) (odd_sign (prec f) s (hid f + t) x (low f))

-- an even number of whole steps added
pub closest_add : (i a b : ℕ) → 0 < b → closest (i * 2 * b + a) b ≡ i * 2 + closest a b
closest_add i a b B =
    ap (λ (z : ℕ). nearest z (compare ((i * 2 * b + a) % b * 2) b)) (mul-add-div_right B (i * 2) a)
    ∙ ap (λ (z : ℕ). nearest (i * 2 + a / b) (compare (z * 2) b)) (mul-add-mod_self_right (i * 2) b a)
    ∙ go (compare (a % b * 2) b) (a / b)
  where
    tie : (i q : ℕ) → i * 2 + q + (i * 2 + q) % 2 ≡ i * 2 + (q + q % 2)
    tie i q = omega arith

    next : (i q : ℕ) → suc (i * 2 + q) ≡ i * 2 + suc q
    next i q = omega arith

    go : (o : Ordering) (q : ℕ) → nearest (i * 2 + q) o ≡ i * 2 + nearest q o
    go Ordering.lt q = refl
    go Ordering.eq q = tie i q
    go Ordering.gt q = next i q

-- less than a half
pub closest_none : (a b : ℕ) → a * 2 < b → closest a b ≡ 0
closest_none a b h =
    let l : a < b = less a b h in
    ap (λ (z : ℕ). nearest z (compare (a % b * 2) b)) (div-eq_of_lt l) ∙ ap (λ (z : ℕ). nearest 0 (compare (z * 2) b)) (mod-eq_of_lt l) ∙ ap (λ (o : Ordering). nearest 0 o) (compare_lt (a * 2) b h)
  where
    less : (a b : ℕ) → a * 2 < b → a < b
    less a b h = omega arith
