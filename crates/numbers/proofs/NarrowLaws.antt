-- Narrowing on bit patterns: `narrow_size_value p` is the pattern of the narrowed value, for a pattern p with no sign up to the infinity's. By the exponent's
-- field: normal or too large, subnormal, zero. Cited by `narrow_bits` through `Codes`. Assumes nothing.
use Rattle.std.proofs.Common.{◌≡◌, ℕ, zero, suc, ◌+◌, ◌-◌, ◌*◌, ◌/◌, ◌%◌, ◌^◌, ◌<◌, ◌≤◌, min, Bool, true, false, cond, not, T, leb, ◌⊎◌, sym, refl, ap, ◌∙◌, subst, inl, inr, le_trans, le_of_eq, lt_of_lt_of_le, le-add_right, lt_of_le_of_lt, le_of_lt, mod-lt, mul_comm, div-lt_iff_lt-mul, eq-or-lt_of_le, div-add-mod', le-add_left, arith, lit≤, leb→le, pow_pos, pow_mono, shr_lt}
use Prim.Native.Nat.{compare}
use native.Mathlib.Nat.{pow-succ'}
use lib.Dec.{nleb→lt}
use lib.Ieee.{Float, nan, inf, fin, binary32, binary64, top, up, down, round, of_bits}
use lib.Ieee.Fits.{nearest-le, down_pos}
use lib.Ieee.Exact.{HasValue}
use lib.Ieee.Nearest.{closest}
use lib.Ieee.Scale.{round_same}
use Rattle.numbers.specs.Whole.{narrow}
use Rattle.floats.proofs.Digits.{round_bits_fact, value_zero, value_mid, closest_add, closest_none}
use Rattle.numbers.specs.Inner.{narrow_at, narrow_size_value}

-- ---- the value that a pattern stands for
pub narrow_value : (v : Float) (s : Bool) (a c : ℕ) → 0 < c → HasValue v s a c → narrow v ≡ round binary32 s a c
unfolding narrow
narrow_value nan s a c C p = absurd p
narrow_value (inf r) s a c C p = absurd p
narrow_value (fin r m e) s a c C p = ap (λ (z : Bool). round binary32 z (m * up e) (down e)) p.0 ∙ round_same binary32 s (m * up e) (down e) a c (down_pos e) C p.1

pub wide_53 : (t : ℕ) → t < 2 ^ 52 → 2 ^ 52 + t < 2 ^ 53
wide_53 t h = omega arith

-- normal results, and those that overflow
normal : (s : Bool) (k t : ℕ) → t < 2 ^ 52 → suc (896 + k) < 2047
    → of_bits binary32 (cond s (top binary32) 0 + min (closest ((suc (896 + k)) * 2 ^ 52 + t - 0x3800_0000_0000_0000) (2 ^ 29)) 0x7f80_0000) ≡ narrow (of_bits binary64 (cond s (top binary64) 0 + (suc (896 + k) * 2 ^ 52 + t)))
normal s k t h l =
    ap (λ (z : ℕ). of_bits binary32 (cond s (top binary32) 0 + min z 0x7f80_0000)) (ap (λ (z : ℕ). closest z (2 ^ 29)) (from_base k t) ∙ closest_add (k * 2 ^ 22) (2 ^ 52 + t) (2 ^ 29) (pow_pos 29) ∙ ap (λ (z : ℕ). z + closest (2 ^ 52 + t) (2 ^ 29)) (fields_up k))
    ∙ round_bits_fact binary32 (2 ^ 52 + t) (896 + k) 1074 29 k (wide_53 t h) (inr (le-add_right (2 ^ 52) t)) (places k) s
    ∙ sym (narrow_value (of_bits binary64 (cond s (top binary64) 0 + (suc (896 + k) * 2 ^ 52 + t))) s ((2 ^ 52 + t) * 2 ^ (896 + k)) (2 ^ 1074) (pow_pos 1074) (value_mid binary64 s (896 + k) t h l))
  where
    from_base : (k t : ℕ) → suc (896 + k) * 2 ^ 52 + t - 0x3800_0000_0000_0000 ≡ k * 2 ^ 22 * 2 * 2 ^ 29 + (2 ^ 52 + t)
    from_base k t = omega arith

    fields_up : (k : ℕ) → k * 2 ^ 22 * 2 ≡ k * 2 ^ 23
    fields_up k = omega arith

    places : (k : ℕ) → 1074 + k ≡ 29 + (896 + k + 149)
    places k = omega arith

-- results below the smallest normal one: g digits are dropped, and none is left out above
subnormal : (s : Bool) (D j g : ℕ) → D < 2 ^ (24 + g) → 1074 + 0 ≡ g + (j + 149) → closest D (2 ^ g) < 2 ^ 24 → (v : Float) → HasValue v s (D * 2 ^ j) (2 ^ 1074)
    → of_bits binary32 (cond s (top binary32) 0 + closest D (2 ^ g)) ≡ narrow v
subnormal s D j g h e b v p =
    ap (λ (z : ℕ). of_bits binary32 (cond s (top binary32) 0 + z)) (sym (no_more (closest D (2 ^ g)) b))
    ∙ round_bits_fact binary32 D j 1074 g 0 h (inl refl) e s
    ∙ sym (narrow_value v s (D * 2 ^ j) (2 ^ 1074) (pow_pos 1074) p)
  where
    no_more : (q : ℕ) → q < 2 ^ 24 → min (0 * 2 ^ 23 + q) 0x7f80_0000 ≡ q
    no_more q h = omega arith

pow_up : (a b : ℕ) → a ≤ b → (D : ℕ) → D < 2 ^ a → D < 2 ^ b
pow_up a b h D l = lt_of_lt_of_le l (pow_mono h)

narrow_mid : (s : Bool) (x t : ℕ) → t < 2 ^ 52 → 873 ≤ suc x → suc x < 897
    → of_bits binary32 (cond s (top binary32) 0 + closest (2 ^ 52 + t) (2 ^ (926 - suc x))) ≡ narrow (of_bits binary64 (cond s (top binary64) 0 + (suc x * 2 ^ 52 + t)))
narrow_mid s x t h lo hi =
    subnormal s (2 ^ 52 + t) x (926 - suc x) (pow_up 53 (24 + (926 - suc x)) (a x hi) (2 ^ 52 + t) (wide_53 t h)) (b x hi)
    (lt_of_le_of_lt (nearest-le ((2 ^ 52 + t) / 2 ^ (926 - suc x)) (compare ((2 ^ 52 + t) % 2 ^ (926 - suc x) * 2) (2 ^ (926 - suc x))))
    (c ((2 ^ 52 + t) / 2 ^ (926 - suc x)) (shr_lt 23 (926 - suc x) (pow_up 53 (23 + (926 - suc x)) (d x hi) (2 ^ 52 + t) (wide_53 t h)))))
    (of_bits binary64 (cond s (top binary64) 0 + (suc x * 2 ^ 52 + t))) (value_mid binary64 s x t h (lt_of_lt_of_le hi (lit≤ tt)))
  where
    a : (x : ℕ) → suc x < 897 → 53 ≤ 24 + (926 - suc x)
    a x h = omega arith

    b : (x : ℕ) → suc x < 897 → 1074 + 0 ≡ 926 - suc x + (x + 149)
    b x h = omega arith

    c : (q : ℕ) → q < 2 ^ 23 → suc q < 2 ^ 24
    c q h = omega arith

    d : (x : ℕ) → suc x < 897 → 53 ≤ 23 + (926 - suc x)
    d x h = omega arith

twice_lt : (D a b : ℕ) → D < 2 ^ a → suc a ≤ b → D * 2 < 2 ^ b
twice_lt D a b h l = lt_of_lt_of_le (lt_of_lt_of_le (step D (2 ^ a) h) (le_of_eq (mul_comm (2 ^ a) 2 ∙ sym (pow-succ' 2 a)))) (pow_mono l)
  where
    step : (D p : ℕ) → D < p → D * 2 < p * 2
    step D p h = omega arith

-- what rounds to zero
narrow_none : (s : Bool) (D j g : ℕ) → D < 2 ^ 53 → 54 ≤ g → 1074 + 0 ≡ g + (j + 149) → (v : Float) → HasValue v s (D * 2 ^ j) (2 ^ 1074) → of_bits binary32 (cond s (top binary32) 0 + 0) ≡ narrow v
narrow_none s D j g h l e v p =
    let z : closest D (2 ^ g) ≡ 0 = closest_none D (2 ^ g) (twice_lt D 53 g h l) in
    ap (λ (q : ℕ). of_bits binary32 (cond s (top binary32) 0 + q)) (sym z)
    ∙ subnormal s D j g (pow_up 53 (24 + g) (le_trans (le_of_lt l) (le-add_left g 24)) D h) e (subst (λ (q : ℕ). q < 2 ^ 24) (sym z) (pow_pos 24)) v p

narrow_small : (s : Bool) (X t : ℕ) → t < 2 ^ 52 → X < 873 → of_bits binary32 (cond s (top binary32) 0 + 0) ≡ narrow (of_bits binary64 (cond s (top binary64) 0 + (X * 2 ^ 52 + t)))
narrow_small s zero t h l = narrow_none s t 0 925 (lt_of_lt_of_le h (lit≤ tt)) (lit≤ tt) refl (of_bits binary64 (cond s (top binary64) 0 + (0 * 2 ^ 52 + t))) (value_zero binary64 s t h)
narrow_small s (suc x) t h l = narrow_none s (2 ^ 52 + t) x (926 - suc x) (wide_53 t h) (a x l) (b x l) (of_bits binary64 (cond s (top binary64) 0 + (suc x * 2 ^ 52 + t))) (value_mid binary64 s x t h (lt_of_lt_of_le l (lit≤ tt)))
  where
    a : (x : ℕ) → suc x < 873 → 54 ≤ 926 - suc x
    a x h = omega arith

    b : (x : ℕ) → suc x < 873 → 1074 + 0 ≡ 926 - suc x + (x + 149)
    b x h = omega arith

narrow_fields : (s : Bool) (X t : ℕ) → t < 2 ^ 52 → X < 2047 → of_bits binary32 (cond s (top binary32) 0 + narrow_at (X * 2 ^ 52 + t) X t) ≡ narrow (of_bits binary64 (cond s (top binary64) 0 + (X * 2 ^ 52 + t)))
narrow_fields s X t h l = go X (leb 897 X) (leb 873 X) (leb→le 897 X) (nleb→lt 897 X) (leb→le 873 X) (nleb→lt 873 X) l
  where
    back : (X : ℕ) → 897 ≤ X → suc (896 + (X - 897)) ≡ X
    back X h = omega arith

    no : 873 ≤ 0 → ⊥
    no h = omega arith

    go : (X : ℕ) (a b : Bool) → (T a → 897 ≤ X) → (T (not a) → X < 897) → (T b → 873 ≤ X) → (T (not b) → X < 873) → X < 2047
        → of_bits binary32 (cond s (top binary32) 0 + cond a (min (closest (X * 2 ^ 52 + t - 0x3800_0000_0000_0000) (2 ^ 29)) 0x7f80_0000) (cond b (closest (2 ^ 52 + t) (2 ^ (926 - X))) 0))
        ≡ narrow (of_bits binary64 (cond s (top binary64) 0 + (X * 2 ^ 52 + t)))
    go X true b p q r w l =
        subst (λ (Y : ℕ). of_bits binary32 (cond s (top binary32) 0 + min (closest (Y * 2 ^ 52 + t - 0x3800_0000_0000_0000) (2 ^ 29)) 0x7f80_0000) ≡ narrow (of_bits binary64 (cond s (top binary64) 0 + (Y * 2 ^ 52 + t)))) (back X (p tt))
        (normal s (X - 897) t h (subst (λ (Y : ℕ). Y < 2047) (sym (back X (p tt))) l))
    go zero false true p q r w l = absurd (no (r tt))
    go (suc x) false true p q r w l = narrow_mid s x t h (r tt) (q tt)
    go X false false p q r w l = narrow_small s X t h (w tt)

narrow_inf : (s : Bool) → of_bits binary32 (cond s (top binary32) 0 + narrow_size_value 0x7ff0_0000_0000_0000) ≡ narrow (of_bits binary64 (cond s (top binary64) 0 + 0x7ff0_0000_0000_0000))
unfolding narrow_size_value of_bits narrow
narrow_inf true = refl
narrow_inf false = refl

pub narrow_size_right : (s : Bool) (p : ℕ) → p ≤ 0x7ff0_0000_0000_0000 → of_bits binary32 (cond s (top binary32) 0 + narrow_size_value p) ≡ narrow (of_bits binary64 (cond s (top binary64) 0 + p))
unfolding narrow_size_value
narrow_size_right s p h = go (eq-or-lt_of_le h)
  where
    go : (p ≡ 0x7ff0_0000_0000_0000) ⊎ (p < 0x7ff0_0000_0000_0000) → of_bits binary32 (cond s (top binary32) 0 + narrow_size_value p) ≡ narrow (of_bits binary64 (cond s (top binary64) 0 + p))
    go (inl e) = subst (λ (z : ℕ). of_bits binary32 (cond s (top binary32) 0 + narrow_size_value z) ≡ narrow (of_bits binary64 (cond s (top binary64) 0 + z))) (sym e) (narrow_inf s)
    go (inr l) =
        subst (λ (z : ℕ). of_bits binary32 (cond s (top binary32) 0 + narrow_at z (p / 2 ^ 52) (p % 2 ^ 52)) ≡ narrow (of_bits binary64 (cond s (top binary64) 0 + z))) (div-add-mod' p (2 ^ 52))
        (narrow_fields s (p / 2 ^ 52) (p % 2 ^ 52) (mod-lt p (pow_pos 52)) ((div-lt_iff_lt-mul (pow_pos 52)).1 l))
