-- What the narrowing on bit patterns computes, against the definitions: the rounding shift, its branches, the NaNs. Cited by `narrow_bits`, `narrow` and, for the
-- shift, by the roundings. Assumes nothing.
use Rattle.std.proofs.Common.{◌≡◌, ℕ, suc, ◌+◌, ◌-◌, ◌*◌, ◌/◌, ◌%◌, ◌^◌, ◌<◌, ◌≤◌, min, Bool, true, false, cond, not, T, leb, sym, refl, ap, ◌∙◌, subst, zero-le, le_trans, le_of_eq, lt_of_lt_of_le, lt_of_le_of_lt, le_of_lt, mod-lt, mod-eq_of_lt, zero-lt-suc, add_comm, mul-le-mul_left, one-mul, zero-add, arith, lit<, lit≤, le→leb, pow_pos, pow_mono, shr_lt}
use Prim.Native.Nat.{compare, Ordering}
use native.Mathlib.Nat.{add-mod_left, min-eq_left, min-eq_right}
use lib.Dec.{nleb→lt}
use lib.Arith.{lt→nleb}
use lib.Pow.{pow-lt}
use lib.Ieee.{Float, nan, inf, fin, binary32, binary64, nearest, of_bits, to_bits, is_nan, fits}
use lib.Ieee.Fits.{nearest-le, round-fits, nan-fits, inf-fits}
use lib.Ieee.Nearest.{closest, div_mono}
use lib.Ieee.Bits.{cond_no}
use Rattle.numbers.specs.Whole.{narrow}
use Rattle.numbers.specs.Inner.{narrow_size_value, narrow_at}
use Rattle.numbers.proofs.NarrowLaws.{narrow_size_right, wide_53}
use Rattle.floats.proofs.Digits.{compare_lt, compare_eq, compare_gt}
use Rattle.floats.proofs.Codes.{nan_code, code_back, round_number}

-- ---- the rounding shift
pub shift_unit : (sh : ℕ) → sh < 64 → 1 * 2 ^ sh % 2 ^ 64 ≡ 2 ^ sh
shift_unit sh h = ap (λ (z : ℕ). z % 2 ^ 64) (one-mul (2 ^ sh)) ∙ mod-eq_of_lt (pow-lt h)

pub shift_pos : (sh : ℕ) → sh < 64 → 0 < 1 * 2 ^ sh % 2 ^ 64
shift_pos sh h = subst (λ (z : ℕ). 0 < z) (sym (shift_unit sh h)) (pow_pos sh)

pub rest_le : (w u : ℕ) → 0 < u → w % u ≤ u
rest_le w u h = le_of_lt (mod-lt w h)

pub shift_down : (w u U : ℕ) → U ≡ u → 0 < U → w % U < U - w % U → w / U ≡ closest w u
shift_down w u U e p h = ap (λ (o : Ordering). nearest (w / U) o) (sym (compare_lt (w % U * 2) U (twice (w % U) U h))) ∙ ap (λ (z : ℕ). closest w z) e
  where
    twice : (r u : ℕ) → r < u - r → r * 2 < u
    twice r u h = omega arith

pub shift_up : (w u U : ℕ) → U ≡ u → 0 < U → U - w % U < w % U → w / U + 1 ≡ closest w u
shift_up w u U e p h = next (w / U) ∙ ap (λ (o : Ordering). nearest (w / U) o) (sym (compare_gt (w % U * 2) U (twice (w % U) U h))) ∙ ap (λ (z : ℕ). closest w z) e
  where
    twice : (r u : ℕ) → u - r < r → u < r * 2
    twice r u h = omega arith

    next : (q : ℕ) → q + 1 ≡ suc q
    next q = omega arith

pub shift_tie : (w u U : ℕ) → U ≡ u → 0 < U → U - w % U ≤ w % U → w % U ≤ U - w % U → w / U + w / U % 2 ≡ closest w u
shift_tie w u U e p h k = ap (λ (o : Ordering). nearest (w / U) o) (sym (compare_eq (w % U * 2) U (twice (w % U) U (mod-lt w p) h k))) ∙ ap (λ (z : ℕ). closest w z) e
  where
    twice : (r u : ℕ) → r < u → u - r ≤ r → r ≤ u - r → r * 2 ≡ u
    twice r u l h k = omega arith

-- there is room for one more
pub shift_room : (w sh : ℕ) → w < 2 ^ 64 → 1 ≤ sh → sh < 64 → w / (1 * 2 ^ sh % 2 ^ 64) + 1 < 2 ^ 64
shift_room w sh h l b =
    let g : w / (1 * 2 ^ sh % 2 ^ 64) ≤ w / 2 =
    div_mono w (1 * 2 ^ sh % 2 ^ 64) w 2 (shift_pos sh b) (zero-lt-suc 1) (mul-le-mul_left w (le_trans (pow_mono {i = 1} {j = sh} l) (le_of_eq (sym (shift_unit sh b))))) in
    go w (w / (1 * 2 ^ sh % 2 ^ 64)) h g
  where
    go : (w q : ℕ) → w < 2 ^ 64 → q ≤ w / 2 → q + 1 < 2 ^ 64
    go w q h g = omega arith

-- ---- the branches of `narrow_size`
pub cond_yes : (b : Bool) (x y : ℕ) → T b → cond b x y ≡ x
cond_yes true x y t = refl
cond_yes false x y t = absurd t

narrow_size_is : (p : ℕ) → narrow_size_value p ≡ narrow_at p (p / 2 ^ 52) (p % 2 ^ 52)
unfolding narrow_size_value
narrow_size_is p = refl

at_top : (p X t : ℕ) → 897 ≤ X → narrow_at p X t ≡ min (closest (p - 0x3800_0000_0000_0000) (2 ^ 29)) 0x7f80_0000
at_top p X t h = cond_yes (leb 897 X) (min (closest (p - 0x3800_0000_0000_0000) (2 ^ 29)) 0x7f80_0000) (cond (leb 873 X) (closest (2 ^ 52 + t) (2 ^ (926 - X))) 0) (le→leb 897 X h)

at_mid : (p X t : ℕ) → X < 897 → 873 ≤ X → narrow_at p X t ≡ closest (2 ^ 52 + t) (2 ^ (926 - X))
at_mid p X t h l =
    cond_no (leb 897 X) (min (closest (p - 0x3800_0000_0000_0000) (2 ^ 29)) 0x7f80_0000) (cond (leb 873 X) (closest (2 ^ 52 + t) (2 ^ (926 - X))) 0) (lt→nleb 897 X h)
    ∙ cond_yes (leb 873 X) (closest (2 ^ 52 + t) (2 ^ (926 - X))) 0 (le→leb 873 X l)

at_low : (p X t : ℕ) → X < 873 → narrow_at p X t ≡ 0
at_low p X t h =
    cond_no (leb 897 X) (min (closest (p - 0x3800_0000_0000_0000) (2 ^ 29)) 0x7f80_0000) (cond (leb 873 X) (closest (2 ^ 52 + t) (2 ^ (926 - X))) 0) (lt→nleb 897 X (lt_of_lt_of_le h (lit≤ tt)))
    ∙ cond_no (leb 873 X) (closest (2 ^ 52 + t) (2 ^ (926 - X))) 0 (lt→nleb 873 X h)

pub size_top : (p y : ℕ) → 897 ≤ p / 2 ^ 52 → y ≡ closest (p - 0x3800_0000_0000_0000) (2 ^ 29) → y < 0x7f80_0000 → y ≡ narrow_size_value p
size_top p y h e l = sym (narrow_size_is p ∙ at_top p (p / 2 ^ 52) (p % 2 ^ 52) h ∙ ap (λ (z : ℕ). min z 0x7f80_0000) (sym e) ∙ min-eq_left (le_of_lt l))

pub size_over : (p y : ℕ) → 897 ≤ p / 2 ^ 52 → y ≡ closest (p - 0x3800_0000_0000_0000) (2 ^ 29) → 0x7f80_0000 ≤ y → 0x7f80_0000 ≡ narrow_size_value p
size_over p y h e l = sym (narrow_size_is p ∙ at_top p (p / 2 ^ 52) (p % 2 ^ 52) h ∙ ap (λ (z : ℕ). min z 0x7f80_0000) (sym e) ∙ min-eq_right l)

pub size_mid : (p y : ℕ) → p / 2 ^ 52 < 897 → 873 ≤ p / 2 ^ 52 → y ≡ closest (2 ^ 52 + p % 2 ^ 52) (2 ^ (926 - p / 2 ^ 52)) → y ≡ narrow_size_value p
size_mid p y h l e = e ∙ sym (narrow_size_is p ∙ at_mid p (p / 2 ^ 52) (p % 2 ^ 52) h l)

pub size_low : (p : ℕ) → p / 2 ^ 52 < 873 → 0 ≡ narrow_size_value p
size_low p l = sym (narrow_size_is p ∙ at_low p (p / 2 ^ 52) (p % 2 ^ 52) l)

-- the result is a pattern up to the infinity's
narrow_at_le : (p X t : ℕ) → t < 2 ^ 52 → narrow_at p X t ≤ 0x7f80_0000
narrow_at_le p X t h = go (leb 897 X) (leb 873 X) (nleb→lt 897 X)
  where
    cap : (a b : ℕ) → min a b ≤ b
    cap a b = omega arith

    shifts : (X : ℕ) → X < 897 → 53 ≤ 24 + (926 - X)
    shifts X h = omega arith

    under : (q : ℕ) → q < 2 ^ 24 → suc q ≤ 0x7f80_0000
    under q h = omega arith

    go : (a b : Bool) → (T (not a) → X < 897) → cond a (min (closest (p - 0x3800_0000_0000_0000) (2 ^ 29)) 0x7f80_0000) (cond b (closest (2 ^ 52 + t) (2 ^ (926 - X))) 0) ≤ 0x7f80_0000
    go true b l = cap (closest (p - 0x3800_0000_0000_0000) (2 ^ 29)) 0x7f80_0000
    go false true l =
        le_trans (nearest-le ((2 ^ 52 + t) / 2 ^ (926 - X)) (compare ((2 ^ 52 + t) % 2 ^ (926 - X) * 2) (2 ^ (926 - X))))
        (under ((2 ^ 52 + t) / 2 ^ (926 - X)) (shr_lt 24 (926 - X) (lt_of_lt_of_le (wide_53 t h) (pow_mono (shifts X (l tt))))))
    go false false l = zero-le

pub narrow_size_le : (p y : ℕ) → y ≡ narrow_size_value p → y ≤ 0x7f80_0000
narrow_size_le p y e = subst (λ (z : ℕ). z ≤ 0x7f80_0000) (sym (e ∙ narrow_size_is p)) (narrow_at_le p (p / 2 ^ 52) (p % 2 ^ 52) (mod-lt p (pow_pos 52)))

narrow_code : (s : Bool) (p y c : ℕ) → p ≤ 0x7ff0_0000_0000_0000 → y ≡ narrow_size_value p → c ≡ cond s (2 ^ 31) 0 + y → c ≡ to_bits binary32 (narrow (of_bits binary64 (cond s (2 ^ 63) 0 + p)))
narrow_code s p y c h e k =
    let l : y ≤ 0x7f80_0000 = narrow_size_le p y e in
    k ∙ sym (code_back binary32 (cond s (2 ^ 31) 0 + y) (small s y l) (subst (λ (z : ℕ). z ≤ 0x7f80_0000) (sym (cut s y l)) l))
    ∙ ap (to_bits binary32) (ap (λ (z : ℕ). of_bits binary32 (cond s (2 ^ 31) 0 + z)) e ∙ narrow_size_right s p h)
  where
    small : (s : Bool) (y : ℕ) → y ≤ 0x7f80_0000 → cond s (2 ^ 31) 0 + y < 2 ^ 32
    small true y h = up y h
      where
        up : (y : ℕ) → y ≤ 0x7f80_0000 → 2 ^ 31 + y < 2 ^ 32
        up y h = omega arith
    small false y h = up y h
      where
        up : (y : ℕ) → y ≤ 0x7f80_0000 → 0 + y < 2 ^ 32
        up y h = omega arith

    cut : (s : Bool) (y : ℕ) → y ≤ 0x7f80_0000 → (cond s (2 ^ 31) 0 + y) % 2 ^ 31 ≡ y
    cut true y h = add-mod_left (2 ^ 31) y ∙ mod-eq_of_lt (lt_of_le_of_lt h (lit< tt))
    cut false y h = ap (λ (z : ℕ). z % 2 ^ 31) (zero-add y) ∙ mod-eq_of_lt (lt_of_le_of_lt h (lit< tt))

pub narrow_plus : (b y : ℕ) → b % 2 ^ 63 ≤ 0x7ff0_0000_0000_0000 → y ≡ narrow_size_value (b % 2 ^ 63) → b < 2 ^ 63 → y ≡ to_bits binary32 (narrow (of_bits binary64 b))
narrow_plus b y h e l = narrow_code false (b % 2 ^ 63) y y h e (sym (zero-add y)) ∙ ap (λ (z : ℕ). to_bits binary32 (narrow (of_bits binary64 z))) (zero-add (b % 2 ^ 63) ∙ mod-eq_of_lt l)

pub narrow_minus : (b y : ℕ) → b < 2 ^ 64 → b % 2 ^ 63 ≤ 0x7ff0_0000_0000_0000 → y ≡ narrow_size_value (b % 2 ^ 63) → 2 ^ 63 ≤ b → y + 2 ^ 31 ≡ to_bits binary32 (narrow (of_bits binary64 b))
narrow_minus b y w h e l = narrow_code true (b % 2 ^ 63) y (y + 2 ^ 31) h e (add_comm y (2 ^ 31)) ∙ ap (λ (z : ℕ). to_bits binary32 (narrow (of_bits binary64 z))) (back b w l)
  where
    back : (b : ℕ) → b < 2 ^ 64 → 2 ^ 63 ≤ b → 2 ^ 63 + b % 2 ^ 63 ≡ b
    back b w l = omega arith

pub narrow_nan : (b : ℕ) → 0x7ff0_0000_0000_0000 < b % 2 ^ 63 → 0x7fc0_0000 ≡ to_bits binary32 (narrow (of_bits binary64 b))
narrow_nan b h = nan_bits ∙ ap (λ (z : Float). to_bits binary32 (narrow z)) (sym (nan_code binary64 b h))
  where
    nan_bits : 0x7fc0_0000 ≡ to_bits binary32 (narrow nan)
    nan_bits = unfold to_bits narrow in refl

pub narrow_number : (x : Float) → T (not (is_nan x)) → T (not (is_nan (narrow x)))
unfolding is_nan narrow
narrow_number nan t = t
narrow_number (inf s) t = tt
narrow_number (fin s m e) t = round_number binary32 s _ _

pub narrow_fits : (x : Float) → T (fits binary32 (narrow x))
unfolding narrow
narrow_fits nan = nan-fits binary32
narrow_fits (inf s) = inf-fits binary32 s
narrow_fits (fin s m e) = round-fits binary32 s _ _
