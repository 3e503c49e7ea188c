-- Rounding keeps the order of signed fractions: if ±a / c is at most ±b / d, it rounds to a value that is no larger. So do differences and products.
-- Cited by the Box promise. Assumes nothing.
use mathlib.Core.Path.{◌≡◌, refl, sym, ap, ◌∙◌, subst}
use mathlib.Core.Bool.{Bool, true, false, not, ◌&&◌, ◌||◌, cond}
use Prim.Native.Nat.{ℕ, ◌+◌, ◌-◌, ◌*◌, ◌^◌, ◌≤◌, ◌<◌, zero-le}
use native.Mathlib.Nat.{add_comm, eq_of_mul-eq-mul_right, mul-one, zero-mul, mul-pos, zero-lt-suc, le_of_lt, add-zero, mul-le-mul_right, mul-mul-mul_comm}
use native.Mathlib.Omega.{arith}
use lib.IntN.{ℤ}
use lib.Dec.{T, ltb, leb, eqb, ltb→lt, nltb→le, eqb→eq, eqb_refl, leb→le}
use lib.Ieee.{Float, nan, inf, fin, Format, binary32, binary64, up, down, round, neg, le, lt, below, level, sum, sub, mul, unlike}
use lib.Ieee.Fits.{down_pos, up_pos, and_i, and_l, and_r}
use lib.Ieee.Order.{round_mono}
use lib.Ieee.Scale.{round_same, finite}
use lib.Arith.{le→nltb}
use lib.Ieee.Bits.{cond_no}
use Rattle.floats.proofs.Laws.{round_neg}
use Rattle.floats.proofs.Within.{unsigned, round_unsigned}
use Rattle.floats.proofs.Value.{sub_values, sub_mul, below_scale, mul_values}
use Rattle.floats.proofs.Integers.{int, int_value}
use Rattle.floats.proofs.Signs.{lhs, rhs, lt_nat, le_nat, test}

-- ±a / c at most ±b / d: the second is not below the first
abbrev at_most : Bool → ℕ → ℕ → Bool → ℕ → ℕ → Bool
at_most s a c t b d = not (below t (b * c) s (a * d))

-- ---- `le` turned round
le_neg : (x y : Float) → T (le x y) → T (le (neg y) (neg x))
unfolding le neg
le_neg nan y h = absurd h
le_neg (inf true) nan h = absurd h
le_neg (inf false) nan h = absurd h
le_neg (inf true) (inf true) h = tt
le_neg (inf true) (inf false) h = tt
le_neg (inf false) (inf true) h = absurd h
le_neg (inf false) (inf false) h = tt
le_neg (inf true) (fin t n d) h = tt
le_neg (inf false) (fin t n d) h = absurd h
le_neg (fin s m e) nan h = absurd h
le_neg (fin s m e) (inf true) h = absurd h
le_neg (fin s m e) (inf false) h = tt
le_neg (fin s m e) (fin t n d) h = turned s t (m * up e * down d) (n * up d * down e) h
  where
    same : (a b : ℕ) (c : Bool) → T (eqb a b && c) → a ≡ b
    same a b c h = eqb→eq a b (and_l (eqb a b) c h)

    flip_eq : (a b : ℕ) → T (eqb a b && true) → T (eqb b a && true)
    flip_eq a b h = subst (λ (z : ℕ). T (eqb z a && true)) (same a b true h) (and_i (eqb a a) true (eqb_refl a) tt)

    cases : (x y z : Bool) → (T y → T z) → T (x || y) → T (x || z)
    cases true y z f t = tt
    cases false y z f t = f t

    zeros : (a b : ℕ) → T (eqb a b && (false || eqb a 0)) → T (eqb b a && (false || eqb b 0))
    zeros a b h =
        let p : a ≡ b = same a b (eqb a 0) h in
        let q : a ≡ 0 = eqb→eq a 0 (and_r (eqb a b) (eqb a 0) h) in
        subst (λ (z : ℕ). T (eqb z a && eqb z 0)) (sym (sym p ∙ q)) (subst (λ (z : ℕ). T (eqb 0 z && eqb 0 0)) (sym q) tt)

    turned : (s t : Bool) (a b : ℕ) → T (below s a t b || level s a t b) → T (below (not t) b (not s) a || level (not t) b (not s) a)
    turned false false a b h = cases (ltb a b) (eqb a b && true) (eqb b a && true) (flip_eq a b) h
    turned true true a b h = cases (ltb b a) (eqb a b && true) (eqb b a && true) (flip_eq a b) h
    turned false true a b h = zeros a b h
    turned true false a b h =
        subst (λ (z : ℕ). T (ltb 0 z || (eqb b a && (false || eqb b 0)))) (add_comm a b) (cases (ltb 0 (a + b)) (eqb a b && (false || eqb a 0)) (eqb b a && (false || eqb b 0)) (zeros a b) h)

-- ---- what is not negative, and what is
both_nought : (a b : ℕ) → a + b ≤ 0 → (a ≡ 0) × (b ≡ 0)
both_nought a b h = omega arith

le_across : (x y : Float) → T (unsigned x) → T (unsigned y) → T (le (neg x) y)
unfolding le neg
le_across nan y p q = absurd p
le_across (inf true) y p q = absurd p
le_across (inf false) nan p q = absurd q
le_across (inf false) (inf true) p q = absurd q
le_across (inf false) (inf false) p q = tt
le_across (inf false) (fin t n d) p q = tt
le_across (fin true m e) y p q = absurd p
le_across (fin false m e) nan p q = absurd q
le_across (fin false m e) (inf true) p q = absurd q
le_across (fin false m e) (inf false) p q = tt
le_across (fin false m e) (fin true n d) p q = absurd q
le_across (fin false m e) (fin false n d) p q = go (m * up e * down d) (n * up d * down e)
  where
    go : (a b : ℕ) → T (ltb 0 (a + b) || (eqb a b && (false || eqb a 0)))
    go a b = split (ltb 0 (a + b)) (nltb→le 0 (a + b))
      where
        split : (t : Bool) → (T (not t) → a + b ≤ 0) → T (t || (eqb a b && (false || eqb a 0)))
        split true h = tt
        split false h = let z = both_nought a b (h tt) in subst (λ (k : ℕ). T (eqb k b && (false || eqb k 0))) (sym z.0) (subst (λ (k : ℕ). T (eqb 0 k && (false || eqb 0 0))) (sym z.1) tt)

-- both zero, +0 and -0
plain_zeros : (f : Format) → T (le (round f false 0 1) (round f true 0 1))
unfolding le round
plain_zeros binary32 = tt
plain_zeros binary64 = tt

le_zeros : (f : Format) (a c b d : ℕ) → 0 < c → 0 < d → a ≡ 0 → b ≡ 0 → T (le (round f false a c) (round f true b d))
le_zeros f a c b d C D p q =
    subst (λ (z : Float). T (le z (round f true b d))) (round_same f false 0 1 a c (zero-lt-suc 0) C (zero-mul c ∙ sym (mul-one a ∙ p)))
    (subst (λ (z : Float). T (le (round f false 0 1) z)) (round_same f true 0 1 b d (zero-lt-suc 0) D (zero-mul d ∙ sym (mul-one b ∙ q))) (plain_zeros f))

pub round_mono_signed : (f : Format) (s t : Bool) (a c b d : ℕ) → 0 < c → 0 < d → T (at_most s a c t b d) → T (le (round f s a c) (round f t b d))
round_mono_signed f false false a c b d C D h = round_mono f a c b d C D (nltb→le (b * c) (a * d) h)
round_mono_signed f true true a c b d C D h =
    subst (λ (z : Float). T (le z (round f true b d))) (round_neg f false a c)
    (subst (λ (z : Float). T (le (neg (round f false a c)) z)) (round_neg f false b d)
    (le_neg (round f false b d) (round f false a c) (round_mono f b d a c D C (nltb→le (a * d) (b * c) h))))
round_mono_signed f true false a c b d C D h = subst (λ (z : Float). T (le z (round f false b d))) (round_neg f false a c) (le_across (round f false a c) (round f false b d) (round_unsigned f a c) (round_unsigned f b d))
round_mono_signed f false true a c b d C D h = let z = both_nought (b * c) (a * d) (nltb→le 0 (b * c + a * d) h) in le_zeros f a c b d C D (factor a d D z.1) (factor b c C z.0)
  where
    factor : (a d : ℕ) → 0 < d → a * d ≡ 0 → a ≡ 0
    factor a d D e = eq_of_mul-eq-mul_right d D a 0 (e ∙ sym (zero-mul d))

-- ---- (p - n) / c rounded
abbrev signed_round : Format → ℕ → ℕ → ℕ → Float
signed_round f p n c = cond (ltb p n) (round f true (n - p) c) (round f false (p - n) c)

signed_round_mono : (f : Format) (p n c p' n' c' : ℕ) → 0 < c → 0 < c' → p * c' + n' * c ≤ p' * c + n * c' → T (le (signed_round f p n c) (signed_round f p' n' c'))
signed_round_mono f p n c p' n' c' C C' h = go (ltb p n) (ltb p' n') (ltb→lt p n) (nltb→le p n) (ltb→lt p' n') (nltb→le p' n')
  where
    less : (n p k n' p' j : ℕ) → p ≤ n → p' ≤ n' → p * k + n' * j ≤ p' * j + n * k → (n' - p') * j ≤ (n - p) * k
    less n p k n' p' j a b h =
        let x = sub_mul n p k in
        let y = sub_mul n' p' j in
        let u : p * k ≤ n * k = mul-le-mul_right k a in
        let v : p' * j ≤ n' * j = mul-le-mul_right j b in
        omega arith

    more : (n p k n' p' j : ℕ) → n ≤ p → n' ≤ p' → p * k + n' * j ≤ p' * j + n * k → (p - n) * k ≤ (p' - n') * j
    more n p k n' p' j a b h =
        let x = sub_mul p n k in
        let y = sub_mul p' n' j in
        let u : n * k ≤ p * k = mul-le-mul_right k a in
        let v : n' * j ≤ p' * j = mul-le-mul_right j b in
        omega arith

    cross : (n p k n' p' j : ℕ) → n ≤ p → p' ≤ n' → p * k + n' * j ≤ p' * j + n * k → (n' - p') * j + (p - n) * k ≤ 0
    cross n p k n' p' j a b h =
        let x = sub_mul p n k in
        let y = sub_mul n' p' j in
        let u : n * k ≤ p * k = mul-le-mul_right k a in
        let v : p' * j ≤ n' * j = mul-le-mul_right j b in
        omega arith

    go : (s t : Bool) → (T s → p < n) → (T (not s) → n ≤ p) → (T t → p' < n') → (T (not t) → n' ≤ p') → T (le (cond s (round f true (n - p) c) (round f false (p - n) c)) (cond t (round f true (n' - p') c') (round f false (p' - n') c')))
    go true true a b d e = round_mono_signed f true true (n - p) c (n' - p') c' C C' (le→nltb ((n - p) * c') ((n' - p') * c) (less n p c' n' p' c (le_of_lt (a tt)) (le_of_lt (d tt)) h))
    go true false a b d e = round_mono_signed f true false (n - p) c (p' - n') c' C C' tt
    go false true a b d e = round_mono_signed f false true (p - n) c (n' - p') c' C C' (le→nltb 0 ((n' - p') * c + (p - n) * c') (cross n p c' n' p' c (b tt) (le_of_lt (d tt)) h))
    go false false a b d e = round_mono_signed f false false (p - n) c (p' - n') c' C C' (le→nltb ((p' - n') * c) ((p - n) * c') (more n p c' n' p' c (b tt) (e tt) h))

-- ---- x - y for an x that is not negative
sum_signed : (f : Format) (t : Bool) (a b c : ℕ) → sum f false a t b c ≡ signed_round f (a + cond t 0 b) (cond t b 0) c
unfolding sum
sum_signed f false a b c = sym (cond_no (ltb (a + b) 0) (round f true (0 - (a + b)) c) (round f false (a + b - 0) c) (le→nltb (a + b) 0 zero-le) ∙ ap (λ (z : ℕ). round f false z c) (less_none (a + b)))
  where
    less_none : (x : ℕ) → x - 0 ≡ x
    less_none x = omega arith
sum_signed f true a b c = ap (λ (z : ℕ). cond (ltb z b) (round f true (b - z) c) (round f false (z - b) c)) (sym (add-zero a))

-- a whole number less y: it grows with the number
pub int_sub_mono : (k j : ℕ) (y : Float) → k ≤ 2 ^ 53 → j ≤ 2 ^ 53 → T (finite y) → k ≤ j → T (le (sub binary64 (int k) y) (sub binary64 (int j) y))
int_sub_mono k j nan K J p h = absurd p
int_sub_mono k j (inf s) K J p h = absurd p
int_sub_mono k j (fin s m e) K J p h =
    subst (λ (z : Float). T (le z (sub binary64 (int j) (fin s m e)))) (sym (opened k K)) (subst (λ (z : Float). T (le (shape k) z)) (sym (opened j J)) (signed_round_mono binary64 (k * d + P) N (1 * d) (j * d + P) N (1 * d) D D (grown (k * d + P) (j * d + P) (1 * d) (N * (1 * d)) (step (k * d) (j * d) P (mul-le-mul_right d h)))))
  where
    d : ℕ
    d = down e

    D : 0 < 1 * d
    D = mul-pos (zero-lt-suc 0) (down_pos e)

    P : ℕ
    P = cond (not s) 0 (m * up e * 1)

    N : ℕ
    N = cond (not s) (m * up e * 1) 0

    step : (x y p : ℕ) → x ≤ y → x + p ≤ y + p
    step x y p h = omega arith

    grown : (x y c n : ℕ) → x ≤ y → x * c + n ≤ y * c + n
    grown x y c n h = step (x * c) (y * c) n (mul-le-mul_right c h)

    shape : ℕ → Float
    shape i = signed_round binary64 (i * d + P) N (1 * d)

    opened : (i : ℕ) → i ≤ 2 ^ 53 → sub binary64 (int i) (fin s m e) ≡ shape i
    opened i I = sub_values binary64 (int i) (fin s m e) false s i 1 (m * up e) (down e) (zero-lt-suc 0) (down_pos e) (int_value i I) (refl, refl) ∙ sum_signed binary64 (not s) (i * d) (m * up e * 1) (1 * d)

-- ---- a product with a factor above zero
not_above : (x y : Float) → T (finite x) → T (finite y) → T (le x y) → T (not (lt y x))
not_above x y p q h = subst (λ (z : Bool). T (not z)) (sym (lt_nat y x q p)) (le→nltb (lhs y x) (rhs y x) (leb→le (lhs x y) (rhs x y) (test (le x y) (leb (lhs x y) (rhs x y)) (le_nat x y p q) h)))

pub mul_mono_right : (f : Format) (x y : Float) (w : ℕ) (g : ℤ) → T (finite x) → T (finite y) → 0 < w → T (le x y) → T (le (mul f x (fin false w g)) (mul f y (fin false w g)))
mul_mono_right f nan y w g p q W h = absurd p
mul_mono_right f (inf s) y w g p q W h = absurd p
mul_mono_right f (fin s m e) nan w g p q W h = absurd q
mul_mono_right f (fin s m e) (inf t) w g p q W h = absurd q
mul_mono_right f (fin s m e) (fin t n d) w g p q W h =
    let K : 0 < w * up g * down g = mul-pos (mul-pos W (up_pos g)) (down_pos g) in
    let b : below t (n * up d * down e) s (m * up e * down d) ≡ below t (n * up d * (w * up g) * (down e * down g)) s (m * up e * (w * up g) * (down d * down g)) =
    below_scale t s (n * up d * down e) (m * up e * down d) (n * up d * (w * up g) * (down e * down g)) (m * up e * (w * up g) * (down d * down g)) 1 (w * up g * down g) (zero-lt-suc 0) K
    (spread (n * up d) (down e) (w * up g) (down g)) (spread (m * up e) (down d) (w * up g) (down g)) in
    subst (λ (z : Float). T (le z (mul f (fin t n d) (fin false w g)))) (sym (opened s m e))
    (subst (λ (z : Float). T (le (round f s (m * up e * (w * up g)) (down e * down g)) z)) (sym (opened t n d))
    (round_mono_signed f s t (m * up e * (w * up g)) (down e * down g) (n * up d * (w * up g)) (down d * down g) (mul-pos (down_pos e) (down_pos g)) (mul-pos (down_pos d) (down_pos g))
    (subst (λ (z : Bool). T (not z)) b (unfold lt in not_above (fin s m e) (fin t n d) tt tt h))))
  where
    spread : (a e w g : ℕ) → a * e * (w * g) ≡ a * w * (e * g) * 1
    spread a e w g = mul-mul-mul_comm a e w g ∙ sym (mul-one (a * w * (e * g)))

    like : (s : Bool) → unlike s false ≡ s
    like true = refl
    like false = refl

    opened : (s : Bool) (m : ℕ) (e : ℤ) → mul f (fin s m e) (fin false w g) ≡ round f s (m * up e * (w * up g)) (down e * down g)
    opened s m e = mul_values f (fin s m e) (fin false w g) s false (m * up e) (down e) (w * up g) (down g) (down_pos e) (down_pos g) (refl, refl) (refl, refl) ∙ ap (λ (z : Bool). round f z (m * up e * (w * up g)) (down e * down g)) (like s)
