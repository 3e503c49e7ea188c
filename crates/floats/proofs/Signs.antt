-- A finite float as (plus - minus) / den, all natural numbers: comparisons are inequalities of natural numbers whatever the signs, and transitive.
-- Cited by `Monotone` and by the Box promise. Assumes nothing.
use mathlib.Core.Path.{◌≡◌, sym, ap, ◌∙◌, subst}
use mathlib.Core.Bool.{Bool, true, false, ◌&&◌, ◌||◌, cond}
use Prim.Native.Nat.{ℕ, ◌+◌, ◌*◌, ◌≤◌, ◌<◌}
use native.Mathlib.Nat.{le_trans, le_of_eq, lt_of_not-le, not-le_of_lt, add_comm, zero-add, add-zero, zero-mul, mul_right_comm, add-mul, mul-le-mul_right, le_of_mul-le-mul_right}
use native.Mathlib.Omega.{arith}
use lib.Dec.{T, ltb, leb, eqb, ltb→lt, lt→ltb, leb→le, le→leb, eqb→eq}
use lib.Ieee.{Float, nan, inf, fin, up, down, le, lt, below, level}
use lib.Ieee.Fits.{eq→eqb, and_i, and_l, and_r}
use lib.Ieee.Scale.{finite}
use lib.Ieee.Positive.{den, den_pos}
use Rattle.floats.proofs.Value.{same_test, or_le}

abbrev pub plus : Float → ℕ
plus nan = 0
plus (inf s) = 0
plus (fin s m e) = cond s 0 (m * up e)

abbrev pub minus : Float → ℕ
minus nan = 0
minus (inf s) = 0
minus (fin s m e) = cond s (m * up e) 0

-- ---- comparisons, whatever the signs
lt_go : (s t : Bool) (a c b d : ℕ) → below s (a * d) t (b * c) ≡ ltb (cond s 0 a * d + cond t b 0 * c) (cond t 0 b * c + cond s a 0 * d)
lt_go false false a c b d = sym (ap (λ (z : ℕ). ltb (a * d + z) (b * c + 0 * d)) (zero-mul c) ∙ ap (λ (z : ℕ). ltb z (b * c + 0 * d)) (add-zero (a * d)) ∙ ap (λ (z : ℕ). ltb (a * d) (b * c + z)) (zero-mul d) ∙ ap (λ (z : ℕ). ltb (a * d) z) (add-zero (b * c)))
lt_go false true a c b d = same_test false (ltb (a * d + b * c) (0 * c + 0 * d)) (λ t. absurd t) (λ t. never (a * d + b * c) (0 * c) (0 * d) (zero-mul c) (zero-mul d) (ltb→lt (a * d + b * c) (0 * c + 0 * d) t))
  where
    never : (x y z : ℕ) → y ≡ 0 → z ≡ 0 → x < y + z → ⊥
    never x y z p q h = omega arith
lt_go true false a c b d = ap (λ (z : ℕ). ltb 0 z) (add_comm (a * d) (b * c)) ∙ ap (λ (z : ℕ). ltb z (b * c + a * d)) (sym (ap (λ (z : ℕ). z + 0 * c) (zero-mul d) ∙ ap (λ (z : ℕ). 0 + z) (zero-mul c)))
lt_go true true a c b d = sym (ap (λ (z : ℕ). ltb (z + b * c) (0 * c + a * d)) (zero-mul d) ∙ ap (λ (z : ℕ). ltb z (0 * c + a * d)) (zero-add (b * c)) ∙ ap (λ (z : ℕ). ltb (b * c) (z + a * d)) (zero-mul c) ∙ ap (λ (z : ℕ). ltb (b * c) z) (zero-add (a * d)))

eq_go : (s t : Bool) (a c b d : ℕ) → level s (a * d) t (b * c) ≡ (eqb (cond s 0 a * d + cond t b 0 * c) (cond t 0 b * c + cond s a 0 * d) && true)
eq_go s t a c b d = same_test (level s (a * d) t (b * c)) (eqb (cond s 0 a * d + cond t b 0 * c) (cond t 0 b * c + cond s a 0 * d) && true) (λ u. and_true (to s t u)) (λ u. from s t (eqb→eq _ _ (and_l (eqb (cond s 0 a * d + cond t b 0 * c) (cond t 0 b * c + cond s a 0 * d)) true u)))
  where
    and_true : {x y : ℕ} → x ≡ y → T (eqb x y && true)
    and_true {x} {y} e = and_i (eqb x y) true (eq→eqb e) tt

    z : (x k : ℕ) → x + 0 * k ≡ x
    z x k = ap (λ (w : ℕ). x + w) (zero-mul k) ∙ add-zero x

    z' : (x k : ℕ) → 0 * k + x ≡ x
    z' x k = ap (λ (w : ℕ). w + x) (zero-mul k) ∙ zero-add x

    none : (x y : ℕ) → x + y ≡ 0 → (x ≡ 0) × (y ≡ 0)
    none x y h = omega arith

    zz : (c d : ℕ) → 0 * c + 0 * d ≡ 0
    zz c d = z (0 * c) d ∙ zero-mul c

    level_zero : (x y : ℕ) → x ≡ 0 → y ≡ 0 → T (eqb x y && (false || eqb x 0))
    level_zero x y p q = subst (λ (k : ℕ). T (eqb k y && (false || eqb k 0))) (sym p) (subst (λ (k : ℕ). T (eqb 0 k && (false || eqb 0 0))) (sym q) tt)

    to : (s t : Bool) → T (level s (a * d) t (b * c)) → cond s 0 a * d + cond t b 0 * c ≡ cond t 0 b * c + cond s a 0 * d
    to false false u = z (a * d) c ∙ eqb→eq (a * d) (b * c) (and_l (eqb (a * d) (b * c)) true u) ∙ sym (z (b * c) d)
    to true true u = z' (b * c) d ∙ sym (eqb→eq (a * d) (b * c) (and_l (eqb (a * d) (b * c)) true u)) ∙ sym (z' (a * d) c)
    to false true u =
        let p = eqb→eq (a * d) (b * c) (and_l (eqb (a * d) (b * c)) (eqb (a * d) 0) u) in
        let q = eqb→eq (a * d) 0 (and_r (eqb (a * d) (b * c)) (eqb (a * d) 0) u) in
        ap (λ (w : ℕ). w + b * c) q ∙ ap (λ (w : ℕ). 0 + w) (sym p ∙ q) ∙ sym (zz c d)
    to true false u =
        let p = eqb→eq (a * d) (b * c) (and_l (eqb (a * d) (b * c)) (eqb (a * d) 0) u) in
        let q = eqb→eq (a * d) 0 (and_r (eqb (a * d) (b * c)) (eqb (a * d) 0) u) in
        zz d c ∙ sym (ap (λ (w : ℕ). w + a * d) (sym p ∙ q) ∙ ap (λ (w : ℕ). 0 + w) q)

    from : (s t : Bool) → cond s 0 a * d + cond t b 0 * c ≡ cond t 0 b * c + cond s a 0 * d → T (level s (a * d) t (b * c))
    from false false e = and_true (sym (z (a * d) c) ∙ e ∙ z (b * c) d)
    from true true e = and_true (sym (sym (z' (b * c) d) ∙ e ∙ z' (a * d) c))
    from false true e = let n = none (a * d) (b * c) (e ∙ zz c d) in level_zero (a * d) (b * c) n.0 n.1
    from true false e = let n = none (b * c) (a * d) (sym e ∙ zz d c) in level_zero (a * d) (b * c) n.1 n.0

-- x ≤ y and x < y, for finite x and y
abbrev pub lhs : Float → Float → ℕ
lhs x y = plus x * den y + minus y * den x

abbrev pub rhs : Float → Float → ℕ
rhs x y = plus y * den x + minus x * den y

pub lt_nat : (x y : Float) → T (finite x) → T (finite y) → lt x y ≡ ltb (lhs x y) (rhs x y)
unfolding lt
lt_nat nan y p q = absurd p
lt_nat (inf s) y p q = absurd p
lt_nat (fin s m e) nan p q = absurd q
lt_nat (fin s m e) (inf t) p q = absurd q
lt_nat (fin s m e) (fin t n d) p q = lt_go s t (m * up e) (down e) (n * up d) (down d)

pub le_nat : (x y : Float) → T (finite x) → T (finite y) → le x y ≡ leb (lhs x y) (rhs x y)
unfolding le
le_nat nan y p q = absurd p
le_nat (inf s) y p q = absurd p
le_nat (fin s m e) nan p q = absurd q
le_nat (fin s m e) (inf t) p q = absurd q
le_nat (fin s m e) (fin t n d) p q =
    ap (λ (z : Bool). z || level s (m * up e * down d) t (n * up d * down e)) (lt_go s t (m * up e) (down e) (n * up d) (down d))
    ∙ ap (λ (z : Bool). ltb (lhs (fin s m e) (fin t n d)) (rhs (fin s m e) (fin t n d)) || z) (eq_go s t (m * up e) (down e) (n * up d) (down d))
    ∙ or_le (lhs (fin s m e) (fin t n d)) (rhs (fin s m e) (fin t n d))

-- ---- the order of signed fractions (p - n) / c is transitive
frac_trans : (p n c p' n' c' p'' n'' c'' : ℕ) → 0 < c' → p * c' + n' * c ≤ p' * c + n * c' → p' * c'' + n'' * c' ≤ p'' * c' + n' * c'' → p * c'' + n'' * c ≤ p'' * c + n * c''
frac_trans p n c p' n' c' p'' n'' c'' C h k =
    let x = le_trans (le_of_eq (sym (add-mul (p * c') (n' * c) c''))) (le_trans (mul-le-mul_right c'' h) (le_of_eq (add-mul (p' * c) (n * c') c''))) in
    let y = le_trans (le_of_eq (sym (add-mul (p' * c'') (n'' * c') c))) (le_trans (mul-le-mul_right c k) (le_of_eq (add-mul (p'' * c') (n' * c'') c))) in
    let a : p * c' * c'' ≡ p * c'' * c' = mul_right_comm p c' c'' in
    let b : n * c' * c'' ≡ n * c'' * c' = mul_right_comm n c' c'' in
    let d : n'' * c' * c ≡ n'' * c * c' = mul_right_comm n'' c' c in
    let e : p'' * c' * c ≡ p'' * c * c' = mul_right_comm p'' c' c in
    let f : n' * c * c'' ≡ n' * c'' * c = mul_right_comm n' c c'' in
    let g : p' * c * c'' ≡ p' * c'' * c = mul_right_comm p' c c'' in
    let l : (p * c'' + n'' * c) * c' ≡ p * c'' * c' + n'' * c * c' = add-mul (p * c'') (n'' * c) c' in
    let r : (p'' * c + n * c'') * c' ≡ p'' * c * c' + n * c'' * c' = add-mul (p'' * c) (n * c'') c' in
    le_of_mul-le-mul_right {k = c'} (omega arith) C

pub test : (b : Bool) (c : Bool) → b ≡ c → T b → T c
test b c e t = subst T e t

pub le_trans_finite : (x y z : Float) → T (finite x) → T (finite y) → T (finite z) → T (le x y) → T (le y z) → T (le x z)
le_trans_finite x y z p q r h k =
    test (leb (lhs x z) (rhs x z)) (le x z) (sym (le_nat x z p r))
    (le→leb (lhs x z) (rhs x z)
    (frac_trans (plus x) (minus x) (den x) (plus y) (minus y) (den y) (plus z) (minus z) (den z) (den_pos y)
    (leb→le (lhs x y) (rhs x y) (test (le x y) (leb (lhs x y) (rhs x y)) (le_nat x y p q) h))
    (leb→le (lhs y z) (rhs y z) (test (le y z) (leb (lhs y z) (rhs y z)) (le_nat y z q r) k))))

-- x < y ≤ z: were z ≤ x, then y ≤ x
pub lt_le_trans_finite : (x y z : Float) → T (finite x) → T (finite y) → T (finite z) → T (lt x y) → T (le y z) → T (lt x z)
lt_le_trans_finite x y z p q r h k =
    test (ltb (lhs x z) (rhs x z)) (lt x z) (sym (lt_nat x z p r)) (lt→ltb (lhs x z) (rhs x z) (lt_of_not-le (λ g. contra g)))
  where
    contra : rhs x z ≤ lhs x z → ⊥
    contra g =
        not-le_of_lt (ltb→lt (lhs x y) (rhs x y) (test (lt x y) (ltb (lhs x y) (rhs x y)) (lt_nat x y p q) h))
        (frac_trans (plus y) (minus y) (den y) (plus z) (minus z) (den z) (plus x) (minus x) (den x) (den_pos z)
        (leb→le (lhs y z) (rhs y z) (test (le y z) (leb (lhs y z) (rhs y z)) (le_nat y z q r) k)) g)
