-- Box: n equal weights of 1 / n, each rounded and scaled by 2^P, sum to 2^P within n / 2. Cited by the Box promise. Assumes nothing.
-- With L = 2^1074 and G / L the weight, |G n - L| is at most L / 2^53 (rounding once), the product with 2^P is exact, and K is within a half of it;
-- so 2 |K n - 2^P| is at most n for P up to 45, and 131070 x 4096 is below 2^30.
use mathlib.Core.Path.{◌≡◌, refl, sym, ap, ◌∙◌, subst}
use mathlib.Core.Bool.{true, false}
use Prim.Native.Nat.{ℕ, zero, suc, ◌+◌, ◌-◌, ◌*◌, ◌^◌, ◌≤◌, ◌<◌, zero-le}
use native.Mathlib.Nat.{le_trans, le_of_eq, lt_of_lt_of_le, lt_of_le_of_lt, zero-lt-suc, mul-one, one-mul, zero-mul, mul-mul-mul_comm, mul_comm, mul_assoc, mul_left_comm, mul_right_comm, add-mul, mul-add, mul-le-mul_right, mul-le-mul_left, mul-lt-mul_of_pos_right, mul-suc, lt_of_mul-lt-mul_left, le_of_suc-le-suc, mul-pos, div-mul-le_self, lt-div-mul-add}
use native.Mathlib.Omega.{arith}
use lib.Dec.{T, lit≤, lit<}
use lib.Pow.{pow_pos, pow_mono}
use lib.Ieee.{Float, nan, inf, fin, Format, binary64, emax, up, down, round, mul, div, fits}
use lib.Ieee.Fits.{down_pos, round-fits}
use lib.Ieee.Exact.{HasValue}
use lib.Ieee.Nearest.{div_same}
use lib.Ieee.Scale.{grid, round_val, round_under, round_same, finite, normal_of_fraction}
use lib.Ieee.Back.{round_whole}
use lib.Ieee.Positive.{num, den, den_pos, value→cross}
use Rattle.integers.specs.Nearest.{nearest}
use Rattle.floats.specs.Within.{Within}
use Rattle.floats.proofs.Value.{mul_values, div_values}
use Rattle.floats.proofs.AtMost.{finite_at, within_at}
use Rattle.floats.proofs.Integers.{int, int_value, within_div_int, int_within}
use Rattle.floats.proofs.Error.{round_error, pow_exact}

-- ---- n weights of G / L, L = 2 ^ 1074, each as K = G * 2 ^ P / L to the nearest whole number: their sum is within n / 2 of 2 ^ P
half_near : (A L : ℕ) → 0 < L → (2 * (nearest A L * L) ≤ 2 * A + L) × (2 * A ≤ 2 * (nearest A L * L) + L)
half_near A L h = go A L (nearest A L * (2 * L)) (nearest A L * L) (mul_left_comm (nearest A L) 2 L) (div-mul-le_self (2 * A + L) (2 * L)) (lt-div-mul-add {a = 2 * A + L} (mul-pos (zero-lt-suc 1) h))
  where
    go : (A L X Y : ℕ) → X ≡ 2 * Y → X ≤ 2 * A + L → 2 * A + L < X + 2 * L → (2 * Y ≤ 2 * A + L) × (2 * A ≤ 2 * Y + L)
    go A L X Y e h l = omega arith

pub box_sum : (n P G L K : ℕ) → 0 < L → P ≤ 45 → (G * n * 2 ^ 53 ≤ L * 2 ^ 53 + L) × (L * 2 ^ 53 ≤ G * n * 2 ^ 53 + L) → K ≡ nearest (G * 2 ^ P) L → (2 * (K * n) ≤ 2 * 2 ^ P + n) × (2 * 2 ^ P ≤ 2 * (K * n) + n)
box_sum n P G L K h b e k =
    let Q = 2 ^ P in
    let u = subst (λ (z : ℕ). (2 * (z * L) ≤ 2 * (G * Q) + L) × (2 * (G * Q) ≤ 2 * (z * L) + L)) (sym k) (half_near (G * Q) L h) in
    let XQ = G * n * Q in
    let LQ = L * Q in
    let Z = L * (K * n) in
    let Ln = L * n in
    let f1 : XQ * 2 ^ 53 ≤ LQ * 2 ^ 53 + LQ = through (G * n) (2 ^ 53) L Q e.0 in
    let f2 : LQ * 2 ^ 53 ≤ XQ * 2 ^ 53 + LQ = back (G * n) (2 ^ 53) L Q e.1 in
    let f3 : LQ ≤ L * 2 ^ 45 = mul-le-mul_left L (pow_mono b) in
    let f4 : 2 * Z ≤ 2 * XQ + Ln = times n K L G Q u.0 in
    let f5 : 2 * XQ ≤ 2 * Z + Ln = times' n K L G Q u.1 in
    let w = both XQ LQ Z Ln L h f1 f2 f3 f4 f5 in (
      cancel L (2 * (K * n)) (2 * Q + n) (lt_of_le_of_lt (le_of_eq (twice L (K * n))) (lt_of_lt_of_le w.0 (le_of_eq (sym (three L Q n))))),
      cancel L (2 * Q) (2 * (K * n) + n) (lt_of_le_of_lt (le_of_eq (twice L Q)) (lt_of_lt_of_le w.1 (le_of_eq (sym (three L (K * n) n))))),
    )
  where
    through : (X t L Q : ℕ) → X * t ≤ L * t + L → X * Q * t ≤ L * Q * t + L * Q
    through X t L Q h =
        le_trans (le_of_eq (mul_right_comm X Q t)) (le_trans (mul-le-mul_right Q h) (le_of_eq (add-mul (L * t) L Q ∙ ap (λ (z : ℕ). z + L * Q) (mul_right_comm L t Q))))

    back : (X t L Q : ℕ) → L * t ≤ X * t + L → L * Q * t ≤ X * Q * t + L * Q
    back X t L Q h =
        le_trans (le_of_eq (mul_right_comm L Q t)) (le_trans (mul-le-mul_right Q h) (le_of_eq (add-mul (X * t) L Q ∙ ap (λ (z : ℕ). z + L * Q) (mul_right_comm X t Q))))

    l_side : (n K L : ℕ) → 2 * (K * L) * n ≡ 2 * (L * (K * n))
    l_side n K L = simp (mul_assoc, mul_comm, mul_left_comm)

    r_side : (n G Q : ℕ) → 2 * (G * Q) * n ≡ 2 * (G * n * Q)
    r_side n G Q = simp (mul_assoc, mul_comm, mul_left_comm)

    times : (n K L G Q : ℕ) → 2 * (K * L) ≤ 2 * (G * Q) + L → 2 * (L * (K * n)) ≤ 2 * (G * n * Q) + L * n
    times n K L G Q h = le_trans (le_of_eq (sym (l_side n K L))) (le_trans (mul-le-mul_right n h) (le_of_eq (add-mul (2 * (G * Q)) L n ∙ ap (λ (z : ℕ). z + L * n) (r_side n G Q))))

    times' : (n K L G Q : ℕ) → 2 * (G * Q) ≤ 2 * (K * L) + L → 2 * (G * n * Q) ≤ 2 * (L * (K * n)) + L * n
    times' n K L G Q h = le_trans (le_of_eq (sym (r_side n G Q))) (le_trans (mul-le-mul_right n h) (le_of_eq (add-mul (2 * (K * L)) L n ∙ ap (λ (z : ℕ). z + L * n) (l_side n K L))))

    less : (XQ LQ L : ℕ) → XQ * 2 ^ 53 ≤ LQ * 2 ^ 53 + LQ → LQ ≤ L * 2 ^ 45 → XQ * 256 ≤ LQ * 256 + L
    less XQ LQ L a c = omega arith

    less' : (XQ LQ L : ℕ) → LQ * 2 ^ 53 ≤ XQ * 2 ^ 53 + LQ → LQ ≤ L * 2 ^ 45 → LQ * 256 ≤ XQ * 256 + L
    less' XQ LQ L a c = omega arith

    up : (XQ LQ Z Ln L : ℕ) → 0 < L → XQ * 256 ≤ LQ * 256 + L → 2 * Z ≤ 2 * XQ + Ln → 2 * Z < 2 * LQ + Ln + L
    up XQ LQ Z Ln L h a d = omega arith

    down : (XQ LQ Z Ln L : ℕ) → 0 < L → LQ * 256 ≤ XQ * 256 + L → 2 * XQ ≤ 2 * Z + Ln → 2 * LQ < 2 * Z + Ln + L
    down XQ LQ Z Ln L h a d = omega arith

    both : (XQ LQ Z Ln L : ℕ) → 0 < L → XQ * 2 ^ 53 ≤ LQ * 2 ^ 53 + LQ → LQ * 2 ^ 53 ≤ XQ * 2 ^ 53 + LQ → LQ ≤ L * 2 ^ 45 → 2 * Z ≤ 2 * XQ + Ln → 2 * XQ ≤ 2 * Z + Ln
        → (2 * Z < 2 * LQ + Ln + L) × (2 * LQ < 2 * Z + Ln + L)
    both XQ LQ Z Ln L h a b c d e = (up XQ LQ Z Ln L h (less XQ LQ L a c) d, down XQ LQ Z Ln L h (less' XQ LQ L b c) e)

    twice : (L k : ℕ) → L * (2 * k) ≡ 2 * (L * k)
    twice L k = mul_left_comm L 2 k

    three : (L Q n : ℕ) → L * suc (2 * Q + n) ≡ 2 * (L * Q) + L * n + L
    three L Q n = mul-suc L (2 * Q + n) ∙ ap (λ (z : ℕ). z + L) (mul-add L (2 * Q) n ∙ ap (λ (z : ℕ). z + L * n) (mul_left_comm L 2 Q))

    cancel : (L x y : ℕ) → L * x < L * suc y → x ≤ y
    cancel L x y h = le_of_suc-le-suc (lt_of_mul-lt-mul_left L h)

-- ---- the claim, for the 32-bit store
pub box_claim : (n P K : ℕ) → n ≤ 8192 → 30 ≤ P → (2 * (K * n) ≤ 2 * 2 ^ P + n) × (2 * 2 ^ P ≤ 2 * (K * n) + n) → 131070 * ((K * n - 2 ^ P) + (2 ^ P - K * n)) < 2 ^ P
box_claim n P K h b e = let c : 2 ^ 30 ≤ 2 ^ P = pow_mono b in go n (K * n) (2 ^ P) h c e.0 e.1
  where
    go : (n S Q : ℕ) → n ≤ 8192 → 2 ^ 30 ≤ Q → 2 * S ≤ 2 * Q + n → 2 * Q ≤ 2 * S + n → 131070 * ((S - Q) + (Q - S)) < Q
    go n S Q h c a b = omega arith

-- ---- 1 / n rounded
pub recip_error : (n : ℕ) → 0 < n → n ≤ 8192 → (grid binary64 1 n * n * 2 ^ 53 ≤ 2 ^ 1074 * 2 ^ 53 + 2 ^ 1074) × (2 ^ 1074 * 2 ^ 53 ≤ grid binary64 1 n * n * 2 ^ 53 + 2 ^ 1074)
recip_error n h l = subst (λ (z : ℕ). (grid binary64 1 n * n * 2 ^ 53 ≤ z * 2 ^ 53 + z) × (z * 2 ^ 53 ≤ grid binary64 1 n * n * 2 ^ 53 + z)) (one-mul (2 ^ 1074))
    (round_error binary64 1 n h (normal_of_fraction binary64 1 n h (le_trans (mul-le-mul_left (2 ^ 52) l) (lit≤ tt))))

-- ---- on floats
-- a product with 2 ^ P
mul_pow : (f : Format) (w t : Float) (n P : ℕ) → T (fits f w) → Within w n → HasValue t false (2 ^ P) 1 → n * 2 ^ P < 2 ^ suc (emax f) → HasValue (mul f w t) false (num w * 2 ^ P) (den w)
mul_pow f nan t n P k W v h = absurd W
mul_pow f (inf s) t n P k W v h = absurd W
mul_pow f (fin true m e) t n P k W v h = absurd W
mul_pow f (fin false zero e) t n P k W v h =
    subst (λ (z : Float). HasValue z false (0 * up e * 2 ^ P) (down e))
    (round_same f false 0 1 (0 * up e * 2 ^ P) (down e * 1) (zero-lt-suc 0) (mul-pos (down_pos e) (zero-lt-suc 0)) (zero-mul (down e * 1) ∙ sym (mul-one (0 * up e * 2 ^ P) ∙ none)) ∙ sym (mul_values f (fin false 0 e) t false false (0 * up e) (down e) (2 ^ P) 1 (down_pos e) (zero-lt-suc 0) (refl, refl) v))
    (moved (round f false 0 1) (0 * up e * 2 ^ P) (down e) none (round_whole f false 0 zero-le))
  where
    none : 0 * up e * 2 ^ P ≡ 0
    none = ap (λ (z : ℕ). z * 2 ^ P) (zero-mul (up e)) ∙ zero-mul (2 ^ P)

    moved : (x : Float) (a c : ℕ) → a ≡ 0 → HasValue x false 0 1 → HasValue x false a c
    moved nan a c z v = v
    moved (inf s) a c z v = v
    moved (fin s m g) a c z v = (v.0, ap (λ (k : ℕ). k * c) (sym (mul-one (m * up g)) ∙ v.1 ∙ zero-mul (down g)) ∙ zero-mul c ∙ sym (ap (λ (k : ℕ). k * down g) z ∙ zero-mul (down g)))
mul_pow f (fin false (suc m) e) t n P k W v h =
    subst (λ (z : Float). HasValue z false (suc m * up e * 2 ^ P) (down e))
    (sym (mul_values f (fin false (suc m) e) t false false (suc m * up e) (down e) (2 ^ P) 1 (down_pos e) (zero-lt-suc 0) (refl, refl) v ∙ ap (λ (z : ℕ). round f false (suc m * up e * 2 ^ P) z) (mul-one (down e))))
    (pow_exact f false m e P k (lt_of_le_of_lt (mul-le-mul_right (2 ^ P) W) (lt_of_le_of_lt (le_of_eq (mul_right_comm n (down e) (2 ^ P))) (mul-lt-mul_of_pos_right h (down_pos e)))))

half_same : (a c b d : ℕ) → 0 < c → 0 < d → a * d ≡ b * c → nearest a c ≡ nearest b d
half_same a c b d C D e = div_same (2 * a + c) (2 * c) (2 * b + d) (2 * d) (mul-pos (zero-lt-suc 1) C) (mul-pos (zero-lt-suc 1) D) (go a c b d e)
  where
    go : (a c b d : ℕ) → a * d ≡ b * c → (2 * a + c) * (2 * d) ≡ (2 * b + d) * (2 * c)
    go a c b d e =
        let x : (2 * a + c) * (2 * d) ≡ 2 * a * (2 * d) + c * (2 * d) = add-mul (2 * a) c (2 * d) in
        let y : (2 * b + d) * (2 * c) ≡ 2 * b * (2 * c) + d * (2 * c) = add-mul (2 * b) d (2 * c) in
        let u : 2 * a * (2 * d) ≡ 4 * (a * d) = mul-mul-mul_comm 2 a 2 d in
        let v : 2 * b * (2 * c) ≡ 4 * (b * c) = mul-mul-mul_comm 2 b 2 c in
        let s : c * (2 * d) ≡ 2 * (c * d) = mul_left_comm c 2 d in
        let t : d * (2 * c) ≡ 2 * (c * d) = mul_left_comm d 2 c ∙ ap (λ (z : ℕ). 2 * z) (mul_comm d c) in
        omega arith

-- the weight of each of n lines, and it scaled
abbrev pub weight : ℕ → Float
weight n = div binary64 (int 1) (int n)

abbrev pub scaled : ℕ → ℕ → Float
scaled n P = mul binary64 (weight n) (int (2 ^ P))

recip_is : (n : ℕ) → 0 < n → n ≤ 8192 → weight n ≡ round binary64 false 1 n
recip_is n h l =
    div_values binary64 (int 1) (int n) false false 1 1 n 1 (zero-lt-suc 0) (zero-lt-suc 0) h (int_value 1 (lit≤ tt)) (int_value n (le_trans l (lit≤ tt)))
    ∙ ap (λ (z : ℕ). round binary64 false 1 z) (mul-one n)

pub box : (n P : ℕ) → 0 < n → n ≤ 8192 → 30 ≤ P → P ≤ 45 → let K = nearest (num (scaled n P)) (den (scaled n P)) in 131070 * ((K * n - 2 ^ P) + (2 ^ P - K * n)) < 2 ^ P
box n P h l p q =
    let w = weight n in
    let y = scaled n P in
    let W : Within w 1 = within_div_int (int 1) 1 n (int_within 1 (lit≤ tt)) h (le_trans l (lit≤ tt)) (lit≤ tt) in
    let e = recip_is n h l in
    let G = grid binary64 1 n in
    let g : HasValue w false G (2 ^ 1074) = subst (λ (z : Float). HasValue z false G (2 ^ 1074)) (sym e) (round_val binary64 1 n (round_under binary64 1 n (subst (λ (z : Float). T (finite z)) e (finite_at w 1 (within_at w 1 W))))) in
    let t : T (fits binary64 w) = subst (λ (z : Float). T (fits binary64 z)) (sym e) (round-fits binary64 false 1 n) in
    let v : HasValue y false (num w * 2 ^ P) (den w) = mul_pow binary64 w (int (2 ^ P)) 1 P t W (int_value (2 ^ P) (le_trans (pow_mono q) (lit≤ tt))) (lt_of_le_of_lt (le_of_eq (one-mul (2 ^ P))) (lt_of_le_of_lt (pow_mono q) (lit< tt))) in
    let k : nearest (num y) (den y) ≡ nearest (G * 2 ^ P) (2 ^ 1074) =
    half_same (num y) (den y) (num w * 2 ^ P) (den w) (den_pos y) (den_pos w) (value→cross y (num w * 2 ^ P) (den w) v)
    ∙ half_same (num w * 2 ^ P) (den w) (G * 2 ^ P) (2 ^ 1074) (den_pos w) (pow_pos 1074) (mul_right_comm (num w) (2 ^ P) (2 ^ 1074) ∙ ap (λ (z : ℕ). z * 2 ^ P) (value→cross w G (2 ^ 1074) g) ∙ mul_right_comm G (den w) (2 ^ P)) in
    box_claim n P (nearest (num y) (den y)) l p (box_sum n P G (2 ^ 1074) (nearest (num y) (den y)) (pow_pos 1074) q (recip_error n h l) k)
