-- The fast narrowing is the narrowing, for every x up to 2^205 in size: `narrow_right`, by the fields of x. Cited by `narrow`. Assumes nothing.
use mathlib.Core.Path.{◌≡◌, refl, sym, ap, ◌∙◌, subst}
use mathlib.Core.Logic.{inl, inr}
use Prim.Native.Nat.{ℕ, zero, suc, ◌+◌, ◌-◌, ◌*◌, ◌/◌, ◌%◌, ◌^◌, ◌≤◌, ◌<◌, zero-le}
use native.Mathlib.Nat.{le_trans, le_of_eq, lt_of_lt_of_le, lt_of_le_of_lt, zero-lt-suc, zero-add, add-zero, not-le_of_lt, lt_of_not-le, mul-one, mul_right_comm, mul-le-mul_right, mul-le-mul_left, mul-lt-mul_of_pos_right, le_of_mul-le-mul_right, mul-pos, div-add-mod', mod-lt, le-add_right}
use native.Mathlib.Omega.{arith}
use mathlib.Core.Bool.{Bool, true, false, not, cond}
use lib.Bits.{bit_or}
use lib.Dec.{T, ltb, leb, eqb, ltb→lt, lt→ltb, nltb→le, leb→le, nleb→lt, lit≤, lit<}
use lib.Pow.{pow-add, pow_pos, pow_mono, pow-lt, shl_lt, shr_lt}
use lib.Ieee.{Float, nan, inf, fin, binary64, down, round, mul, lt, of_bits, of_fields, to_bits, is_nan, fits}
use lib.Ieee.Fits.{down_pos}
use lib.Ieee.Exact.{HasValue, round_exact}
use lib.Ieee.Bits.{of_bits-to_bits, to_bits-lt}
use Rattle.floats.proofs.Digits.{value_zero, value_mid}
use Rattle.floats.proofs.Laws.{pow_le_cancel}
use Rattle.floats.proofs.Pattern.{fields}
use Rattle.floats.proofs.Value.{mul_values, lt_values, rescale, same_test}
use Rattle.floats.specs.Within.{AtMost}
use Rattle.numbers.specs.Whole.{narrow}
use Rattle.row_f32.specs.Narrowing.{larger_of, rounded_by}
use Rattle.row_f32.proofs.SignBack.{bit}
use Rattle.row_f32.proofs.Narrowed.{factor, tiny, tiny_grid, core}

-- ---- the exponent's field X and the digits t of x
abbrev pub scaled : ℕ → Float
scaled X = mul binary64 (of_bits binary64 (X * 2 ^ 52)) (of_bits binary64 0x41c8000000000000)

abbrev pub Right : Float → Float → ℕ → Type 0
Right x c b = T (not (is_nan (rounded_by x c))) × (of_bits binary64 (bit_or (to_bits binary64 (rounded_by x c)) (b / 2 ^ 63 * 2 ^ 63)) ≡ narrow x)

zero_field : larger_of (scaled 0) ≡ of_bits binary64 0x39e8000000000000
unfolding lt mul of_bits
zero_field = refl

lead_value : (y : ℕ) → suc y < 2047 → HasValue (of_bits binary64 (suc y * 2 ^ 52)) false (2 ^ 52 * 2 ^ y) (2 ^ 1074)
lead_value y h = subst (λ (z : ℕ). HasValue (of_bits binary64 z) false (2 ^ 52 * 2 ^ y) (2 ^ 1074)) (zero-add (suc y * 2 ^ 52 + 0) ∙ add-zero (suc y * 2 ^ 52)) (value_mid binary64 false y 0 (pow_pos 52) h)

scaled_value : (y : ℕ) → y ≤ 1227 → HasValue (scaled (suc y)) false (3 * 2 ^ (80 + y)) (2 ^ 1074)
scaled_value y h =
    let r : round binary64 false (2 ^ 52 * 2 ^ y * 805306368) (2 ^ 1074 * 1) ≡ scaled (suc y) = sym (mul_values binary64 (of_bits binary64 (suc y * 2 ^ 52)) (of_bits binary64 0x41c8000000000000) false false (2 ^ 52 * 2 ^ y) (2 ^ 1074) 805306368 1 (pow_pos 1074) (zero-lt-suc 0) (lead_value y (low_y y h)) factor) in
    subst (λ (z : Float). HasValue z false (3 * 2 ^ (80 + y)) (2 ^ 1074)) r
    (rescale (round binary64 false (2 ^ 52 * 2 ^ y * 805306368) (2 ^ 1074 * 1)) false (2 ^ 52 * 2 ^ y * 805306368) (2 ^ 1074 * 1) (3 * 2 ^ (80 + y)) (2 ^ 1074) (mul-pos (pow_pos 1074) (zero-lt-suc 0))
    (sym (ap (λ (z : ℕ). z * 2 ^ 1074) turn))
    (round_exact binary64 false (2 ^ 52 * 2 ^ y * 805306368) (2 ^ 1074 * 1) 3 (80 + y) (mul-pos (pow_pos 1074) (zero-lt-suc 0)) (lit< tt) (lt_of_lt_of_le (shl_lt 2 (80 + y) (lit< tt)) (pow_mono (room y h)))
    (ap (λ (z : ℕ). z * 2 ^ 1074) turn ∙ ap (λ (z : ℕ). 3 * 2 ^ (80 + y) * z) (sym (mul-one (2 ^ 1074))))))
  where
    low_y : (y : ℕ) → y ≤ 1227 → suc y < 2047
    low_y y h = omega arith

    room : (y : ℕ) → y ≤ 1227 → 2 + (80 + y) ≤ 2098
    room y h = omega arith

    lits : (U : ℕ) → 2 ^ 52 * U * 805306368 ≡ 3 * (2 ^ 80 * U)
    lits U = omega arith

    turn : 2 ^ 52 * 2 ^ y * 805306368 ≡ 3 * 2 ^ (80 + y)
    turn = lits (2 ^ y) ∙ ap (λ (z : ℕ). 3 * z) (sym (pow-add 2 80 y))

scaled_test : (y : ℕ) → y ≤ 1227 → lt (of_bits binary64 0x39e8000000000000) (scaled (suc y)) ≡ ltb 896 y
scaled_test y h =
    lt_values (of_bits binary64 0x39e8000000000000) (scaled (suc y)) false false (3 * 2 ^ 976) (2 ^ 1074) (3 * 2 ^ (80 + y)) (2 ^ 1074) (pow_pos 1074) (pow_pos 1074) tiny (scaled_value y h)
    ∙ same_test (ltb (3 * 2 ^ 976 * 2 ^ 1074) (3 * 2 ^ (80 + y) * 2 ^ 1074)) (ltb 896 y)
    (λ t. lt→ltb 896 y (lt_of_not-le (λ (g : y ≤ 896). not-le_of_lt (ltb→lt (3 * 2 ^ 976 * 2 ^ 1074) (3 * 2 ^ (80 + y) * 2 ^ 1074) t) (mul-le-mul_right (2 ^ 1074) (mul-le-mul_left 3 (pow_mono {i = 80 + y} {j = 976} (le_up y g)))))))
    (λ t. lt→ltb (3 * 2 ^ 976 * 2 ^ 1074) (3 * 2 ^ (80 + y) * 2 ^ 1074) (mul-lt-mul_of_pos_right (three_lt (2 ^ 976) (2 ^ (80 + y)) (pow-lt {i = 976} {j = 80 + y} (lt_up y (ltb→lt 896 y t)))) (pow_pos 1074)))
  where
    le_up : (y : ℕ) → y ≤ 896 → 80 + y ≤ 976
    le_up y h = omega arith

    lt_up : (y : ℕ) → 896 < y → 976 < 80 + y
    lt_up y h = omega arith

    three_lt : (a b : ℕ) → a < b → 3 * a < 3 * b
    three_lt a b h = omega arith

-- the bound, in units of 2 ^ -1074
under_bound : (x : Float) (s : Bool) (N n L : ℕ) → 0 < L → AtMost x n → HasValue x s N L → N ≤ n * L
under_bound nan s N n L P h v = absurd h
under_bound (inf t) s N n L P h v = absurd h
under_bound (fin t m e) s N n L P h v =
    le_of_mul-le-mul_right (le_trans (le_of_eq (sym v.1)) (le_trans (mul-le-mul_right L h) (le_of_eq (mul_right_comm n (down e) L)))) (down_pos e)

wide_53 : (t : ℕ) → t < 2 ^ 52 → 2 ^ 52 + t < 2 ^ 53
wide_53 t h = omega arith

field_small : (s : Bool) (y t b : ℕ) (x : Float) → t < 2 ^ 52 → y ≤ 1227 → HasValue x s ((2 ^ 52 + t) * 2 ^ y) (2 ^ 1074) → b / 2 ^ 63 ≡ bit s → Right x (larger_of (scaled (suc y))) b
field_small s y t b x h l v k = go (ltb 896 y) (scaled_test y l) (ltb→lt 896 y) (nltb→le 896 y)
  where
    N : ℕ
    N = (2 ^ 52 + t) * 2 ^ y

    under : (2 ^ 52 + t) * 2 ^ y < 2 ^ (53 + y)
    under = shl_lt 53 y (wide_53 t h)

    over_lead : 2 ^ (52 + y) ≤ (2 ^ 52 + t) * 2 ^ y
    over_lead = le_trans (le_of_eq (pow-add 2 52 y)) (mul-le-mul_right (2 ^ y) (le-add_right (2 ^ 52) t))

    e1 : (y : ℕ) → 896 < y → 53 + y ≡ 24 + (925 + (y - 896))
    e1 y h = omega arith

    e2 : (y : ℕ) → 896 < y → 23 + (925 + (y - 896)) ≡ 52 + y
    e2 y h = omega arith

    e3 : (y : ℕ) → 896 < y → 80 + y ≡ 51 + (925 + (y - 896))
    e3 y h = omega arith

    e4 : (y : ℕ) → y ≤ 896 → 53 + y ≤ 24 + (925 + 0)
    e4 y h = omega arith

    e5 : (y : ℕ) → y ≤ 1227 → y - 896 ≤ 331
    e5 y h = omega arith

    lits : (U : ℕ) → 3 * (2 ^ 51 * U) ≡ 3377699720527872 * 2 * U
    lits U = omega arith

    grid_c : 896 < y → HasValue (scaled (suc y)) false (3377699720527872 * 2 * 2 ^ (925 + (y - 896))) (2 ^ 1074)
    grid_c g = subst (λ (z : ℕ). HasValue (scaled (suc y)) false z (2 ^ 1074)) (ap (λ (z : ℕ). 3 * 2 ^ z) (e3 y g) ∙ ap (λ (z : ℕ). 3 * z) (pow-add 2 51 (925 + (y - 896))) ∙ lits (2 ^ (925 + (y - 896)))) (scaled_value y l)

    go : (d : Bool) → lt (of_bits binary64 0x39e8000000000000) (scaled (suc y)) ≡ d → (T d → 896 < y) → (T (not d) → y ≤ 896) → Right x (larger_of (scaled (suc y))) b
    go true e p q =
        subst (λ (d : Bool). Right x (cond d (scaled (suc y)) (of_bits binary64 0x39e8000000000000)) b) (sym e)
        (core s x (scaled (suc y)) ((2 ^ 52 + t) * 2 ^ y) (y - 896) b v (grid_c (p tt)) (subst (λ (z : ℕ). (2 ^ 52 + t) * 2 ^ y < 2 ^ z) (e1 y (p tt)) under) (inr (subst (λ (z : ℕ). 2 ^ z ≤ (2 ^ 52 + t) * 2 ^ y) (sym (e2 y (p tt))) over_lead)) (e5 y l) k)
    go false e p q =
        subst (λ (d : Bool). Right x (cond d (scaled (suc y)) (of_bits binary64 0x39e8000000000000)) b) (sym e)
        (core s x (of_bits binary64 0x39e8000000000000) ((2 ^ 52 + t) * 2 ^ y) 0 b v tiny_grid (lt_of_lt_of_le under (pow_mono (e4 y (q tt)))) (inl refl) zero-le k)

ones_field : (s : Bool) (t n : ℕ) → AtMost (of_fields binary64 s 2047 t) n → ⊥
unfolding of_fields
ones_field s t n = go (eqb t 0)
  where
    go : (d : Bool) → AtMost (cond d (inf s) nan) n → ⊥
    go true h = h
    go false h = h

by_fields : (s : Bool) (X t b : ℕ) (x : Float) → t < 2 ^ 52 → X < 2048 → x ≡ of_bits binary64 (cond s (2 ^ 63) 0 + (X * 2 ^ 52 + t)) → AtMost x (2 ^ 205) → b / 2 ^ 63 ≡ bit s → Right x (larger_of (scaled X)) b
by_fields s zero t b x h l e a k =
    subst (λ (c : Float). Right x c b) (sym zero_field)
    (core s x (of_bits binary64 0x39e8000000000000) (t * 2 ^ 0) 0 b (subst (λ (v : Float). HasValue v s (t * 2 ^ 0) (2 ^ 1074)) (sym e) (value_zero binary64 s t h)) tiny_grid (lt_of_le_of_lt (le_of_eq (mul-one t)) (lt_of_lt_of_le h (lit≤ tt))) (inl refl) zero-le k)
by_fields s (suc y) t b x h l e a k = go (ltb (suc y) 2047) (ltb→lt (suc y) 2047) (nltb→le (suc y) 2047)
  where
    last : (y : ℕ) → suc y < 2048 → 2047 ≤ suc y → suc y ≡ 2047
    last y p q = omega arith

    bound : (y : ℕ) → 52 + y ≤ 1279 → y ≤ 1227
    bound y h = omega arith

    go : (d : Bool) → (T d → suc y < 2047) → (T (not d) → 2047 ≤ suc y) → Right x (larger_of (scaled (suc y))) b
    go true p q =
        let v = subst (λ (v : Float). HasValue v s ((2 ^ 52 + t) * 2 ^ y) (2 ^ 1074)) (sym e) (value_mid binary64 s y t h (p tt)) in
        let n : 2 ^ (52 + y) ≤ 2 ^ 1279 = le_trans (le_of_eq (pow-add 2 52 y)) (le_trans (mul-le-mul_right (2 ^ y) (le-add_right (2 ^ 52) t)) (le_trans (under_bound x s ((2 ^ 52 + t) * 2 ^ y) (2 ^ 205) (2 ^ 1074) (pow_pos 1074) a v) (le_of_eq (sym (pow-add 2 205 1074))))) in
        field_small s y t b x h (bound y (pow_le_cancel (52 + y) 1279 n)) v k
    go false p q =
        absurd (ones_field s t (2 ^ 205) (subst (λ (v : Float). AtMost v (2 ^ 205)) (e ∙ fields binary64 s (suc y) t l h ∙ ap (λ (z : ℕ). of_fields binary64 s z t) (last y l (q tt))) a))

-- ---- for every x that is bounded
pub narrow_right : (x : Float) → T (fits binary64 x) → AtMost x (2 ^ 205) → Right x (larger_of (scaled (to_bits binary64 x % 2 ^ 63 / 2 ^ 52))) (to_bits binary64 x)
narrow_right x F a =
    let b = to_bits binary64 x in
    let w : b < 2 ^ 64 = to_bits-lt binary64 x F in
    by_fields (leb (2 ^ 63) b) (b % 2 ^ 63 / 2 ^ 52) (b % 2 ^ 63 % 2 ^ 52) b x (mod-lt (b % 2 ^ 63) (pow_pos 52)) (shr_lt 11 52 (mod-lt b (pow_pos 63)))
    (sym (ap (of_bits binary64) (code b w) ∙ of_bits-to_bits binary64 x F)) a (front b w)
  where
    pick : (d : Bool) (b P : ℕ) → P ≡ b % 2 ^ 63 → b < 2 ^ 64 → (T d → 2 ^ 63 ≤ b) → (T (not d) → b < 2 ^ 63) → (cond d (2 ^ 63) 0 + P ≡ b) × (b / 2 ^ 63 ≡ bit d)
    pick true b P e w p q = yes b P e w (p tt)
      where
        yes : (b P : ℕ) → P ≡ b % 2 ^ 63 → b < 2 ^ 64 → 2 ^ 63 ≤ b → (2 ^ 63 + P ≡ b) × (b / 2 ^ 63 ≡ 1)
        yes b P e w h = omega arith
    pick false b P e w p q = no b P e w (q tt)
      where
        no : (b P : ℕ) → P ≡ b % 2 ^ 63 → b < 2 ^ 64 → b < 2 ^ 63 → (0 + P ≡ b) × (b / 2 ^ 63 ≡ 0)
        no b P e w h = omega arith

    code : (b : ℕ) → b < 2 ^ 64 → cond (leb (2 ^ 63) b) (2 ^ 63) 0 + (b % 2 ^ 63 / 2 ^ 52 * 2 ^ 52 + b % 2 ^ 63 % 2 ^ 52) ≡ b
    code b w = (pick (leb (2 ^ 63) b) b (b % 2 ^ 63 / 2 ^ 52 * 2 ^ 52 + b % 2 ^ 63 % 2 ^ 52) (div-add-mod' (b % 2 ^ 63) (2 ^ 52)) w (leb→le (2 ^ 63) b) (nleb→lt (2 ^ 63) b)).0

    front : (b : ℕ) → b < 2 ^ 64 → b / 2 ^ 63 ≡ bit (leb (2 ^ 63) b)
    front b w = (pick (leb (2 ^ 63) b) b (b % 2 ^ 63) refl w (leb→le (2 ^ 63) b) (nleb→lt (2 ^ 63) b)).1

pub bounded_number : (x : Float) (n : ℕ) → AtMost x n → T (not (is_nan x))
unfolding is_nan
bounded_number nan n h = absurd h
bounded_number (inf s) n h = absurd h
bounded_number (fin s m e) n h = tt
