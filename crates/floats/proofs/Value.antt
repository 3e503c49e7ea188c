-- The operations and comparisons of finite floats by any fractions that their values equal, and the larger and the smaller of two. Every other law on values
-- starts by rewriting with these. Assumes nothing.
use mathlib.Core.Path.{◌≡◌, refl, sym, ap, ◌∙◌, subst}
use mathlib.Core.Bool.{Bool, true, false, not, ◌&&◌, ◌||◌, beq, cond}
use mathlib.Core.Logic.{◌⊎◌, inl, inr}
use Prim.Native.Nat.{ℕ, ◌+◌, ◌-◌, ◌*◌, ◌≤◌, ◌<◌, min}
use native.Mathlib.Nat.{lt_of_mul-lt-mul_right, mul-lt-mul_of_pos_right, zero-mul, mul_assoc, mul_comm, mul_left_comm, mul_right_comm, add-mul, mul-pos, mul-sub, mul-mul-mul_comm, le_of_eq, le_of_lt, le_of_mul-le-mul_right, eq_of_mul-eq-mul_right, eq-or-lt_of_le}
use native.Mathlib.Omega.{arith}
use lib.IntN.{ℤ}
use lib.Dec.{T, ltb, leb, eqb, ltb→lt, lt→ltb, leb→le, eqb→eq, not_T, le→leb}
use lib.Ieee.{Float, nan, inf, fin, Format, up, down, unlike, round, neg, sum, add, sub, mul, div, lt, below}
use lib.Ieee.Fits.{down_pos, eq→eqb}
use lib.Ieee.Exact.{HasValue}
use lib.Ieee.Scale.{round_same}
use lib.Ieee.Positive.{first_pos}
use lib.Ieee.Bits.{cond_no}
use borrow.Author.Tests.{ltb-true, ltb-false}
use Rattle.lists.proofs.BoolLaws.{or_first}

pub same_test : (a b : Bool) → (T a → T b) → (T b → T a) → a ≡ b
same_test true true p q = refl
same_test true false p q = absurd (p tt)
same_test false true p q = absurd (q tt)
same_test false false p q = refl

-- ---- A / B and A' / B' are in one order where A * k is A' * j and B * k is B' * j
lt_scale : (A B A' B' j k : ℕ) → 0 < j → 0 < k → A * k ≡ A' * j → B * k ≡ B' * j → A < B → A' < B'
lt_scale A B A' B' j k J K p q h = lt_of_mul-lt-mul_right j (subst (λ (z : ℕ). z < B' * j) p (subst (λ (z : ℕ). A * k < z) q (mul-lt-mul_of_pos_right h K)))

ltb_scale : (A B A' B' j k : ℕ) → 0 < j → 0 < k → A * k ≡ A' * j → B * k ≡ B' * j → ltb A B ≡ ltb A' B'
ltb_scale A B A' B' j k J K p q =
    same_test (ltb A B) (ltb A' B') (λ t. lt→ltb A' B' (lt_scale A B A' B' j k J K p q (ltb→lt A B t))) (λ t. lt→ltb A B (lt_scale A' B' A B k j K J (sym p) (sym q) (ltb→lt A' B' t)))

pub below_scale : (s t : Bool) (A B A' B' j k : ℕ) → 0 < j → 0 < k → A * k ≡ A' * j → B * k ≡ B' * j → below s A t B ≡ below s A' t B'
below_scale false false A B A' B' j k J K p q = ltb_scale A B A' B' j k J K p q
below_scale false true A B A' B' j k J K p q = refl
below_scale true false A B A' B' j k J K p q =
    ltb_scale 0 (A + B) 0 (A' + B') j k J K (zero-mul k ∙ sym (zero-mul j)) (add-mul A B k ∙ ap (λ (z : ℕ). z + B * k) p ∙ ap (λ (z : ℕ). A' * j + z) q ∙ sym (add-mul A' B' j))
below_scale true true A B A' B' j k J K p q = ltb_scale B A B' A' j k J K q p

-- x is a / c and y is b / d in size
cross : (x a c y b d : ℕ) (e g : ℕ) → x * c ≡ a * e → x * g * (c * d) ≡ a * d * (e * g)
cross x a c y b d e g p = simp (mul_assoc, mul_comm, mul_left_comm) (simp (mul_assoc, mul_comm, mul_left_comm) at (ap (λ (z : ℕ). z * (g * d)) p))

cross' : (a c y b d : ℕ) (e g : ℕ) → y * d ≡ b * g → y * e * (c * d) ≡ b * c * (e * g)
cross' a c y b d e g p = simp (mul_assoc, mul_comm, mul_left_comm) (simp (mul_assoc, mul_comm, mul_left_comm) at (ap (λ (z : ℕ). z * (e * c)) p))

pub lt_values : (x y : Float) (s t : Bool) (a c b d : ℕ) → 0 < c → 0 < d → HasValue x s a c → HasValue y t b d → lt x y ≡ below s (a * d) t (b * c)
unfolding lt
lt_values nan y s t a c b d C D p q = absurd p
lt_values (inf r) y s t a c b d C D p q = absurd p
lt_values (fin r m e) nan s t a c b d C D p q = absurd q
lt_values (fin r m e) (inf u) s t a c b d C D p q = absurd q
lt_values (fin r m e) (fin u n g) s t a c b d C D p q =
    ap (λ (z : Bool). below z (m * up e * down g) u (n * up g * down e)) p.0
    ∙ ap (λ (z : Bool). below s (m * up e * down g) z (n * up g * down e)) q.0
    ∙ below_scale s t (m * up e * down g) (n * up g * down e) (a * d) (b * c) (down e * down g) (c * d) (mul-pos (down_pos e) (down_pos g)) (mul-pos C D)
    (cross (m * up e) a c (n * up g) b d (down e) (down g) p.1) (cross' a c (n * up g) b d (down e) (down g) q.1)

not_zero_test : (n : ℕ) → 0 < n → T (not (eqb n 0))
not_zero_test n h = not_T (eqb n 0) (λ t. absurd_eq n h (eqb→eq n 0 t))
  where
    absurd_eq : (k : ℕ) → 0 < k → k ≡ 0 → ⊥
    absurd_eq k h e = omega arith

-- x / e is a / c and y / g is b / d, so x * g / (y * e) is a * d / (b * c)
turned : (x a c y b d e g : ℕ) → x * c ≡ a * e → y * d ≡ b * g → x * g * (b * c) ≡ a * d * (y * e)
turned x a c y b d e g p q =
    simp (mul_assoc, mul_comm, mul_left_comm) (simp (mul_assoc, mul_comm, mul_left_comm) at (ap (λ (z : ℕ). z * (g * b)) p ∙ ap (λ (z : ℕ). a * e * z) (mul_comm g b ∙ sym q)))

-- ---- the operations by the fractions that the operands equal
pub sub_mul : (A B k : ℕ) → (A - B) * k ≡ A * k - B * k
sub_mul A B k = mul_comm (A - B) k ∙ mul-sub k A B ∙ ap (λ (z : ℕ). z - k * B) (mul_comm k A) ∙ ap (λ (z : ℕ). A * k - z) (mul_comm k B)

sub_scale : (A B A' B' j k : ℕ) → A * k ≡ A' * j → B * k ≡ B' * j → (A - B) * k ≡ (A' - B') * j
sub_scale A B A' B' j k p q = sub_mul A B k ∙ ap (λ (z : ℕ). z - B * k) p ∙ ap (λ (z : ℕ). A' * j - z) q ∙ sym (sub_mul A' B' j)

add_scale : (A B A' B' j k : ℕ) → A * k ≡ A' * j → B * k ≡ B' * j → (A + B) * k ≡ (A' + B') * j
add_scale A B A' B' j k p q = add-mul A B k ∙ ap (λ (z : ℕ). z + B * k) p ∙ ap (λ (z : ℕ). A' * j + z) q ∙ sym (add-mul A' B' j)

pub sum_scale : (f : Format) (s t : Bool) (A B A' B' j k : ℕ) → 0 < j → 0 < k → A * k ≡ A' * j → B * k ≡ B' * j → sum f s A t B j ≡ sum f s A' t B' k
unfolding sum
sum_scale f s t A B A' B' j k J K p q = go (beq s t) (ltb_scale A B A' B' j k J K p q) (ltb_scale B A B' A' j k J K q p)
  where
    go : (b : Bool) → ltb A B ≡ ltb A' B' → ltb B A ≡ ltb B' A'
        → cond b (round f s (A + B) j) (cond (ltb A B) (round f t (B - A) j) (round f (s && ltb B A) (A - B) j))
        ≡ cond b (round f s (A' + B') k) (cond (ltb A' B') (round f t (B' - A') k) (round f (s && ltb B' A') (A' - B') k))
    go true u v = round_same f s (A + B) j (A' + B') k J K (add_scale A B A' B' j k p q)
    go false u v =
        ap (λ (z : Bool). cond z (round f t (B - A) j) (round f (s && ltb B A) (A - B) j)) u
        ∙ ap (λ (z : Bool). cond (ltb A' B') (round f t (B - A) j) (round f (s && z) (A - B) j)) v
        ∙ ap (λ (z : Float). cond (ltb A' B') z (round f (s && ltb B' A') (A - B) j)) (round_same f t (B - A) j (B' - A') k J K (sub_scale B A B' A' j k q p))
        ∙ ap (λ (z : Float). cond (ltb A' B') (round f t (B' - A') k) z) (round_same f (s && ltb B' A') (A - B) j (A' - B') k J K (sub_scale A B A' B' j k p q))

-- like signs, not negative
pub like_signs : (f : Format) (a b c : ℕ) → sum f false a false b c ≡ round f false (a + b) c
unfolding sum
like_signs f a b c = refl

pub add_values : (f : Format) (x y : Float) (s t : Bool) (a c b d : ℕ) → 0 < c → 0 < d → HasValue x s a c → HasValue y t b d → add f x y ≡ sum f s (a * d) t (b * c) (c * d)
unfolding add
add_values f nan y s t a c b d C D p q = absurd p
add_values f (inf r) y s t a c b d C D p q = absurd p
add_values f (fin r m e) nan s t a c b d C D p q = absurd q
add_values f (fin r m e) (inf u) s t a c b d C D p q = absurd q
add_values f (fin r m e) (fin u n g) s t a c b d C D p q =
    ap (λ (z : Bool). sum f z (m * up e * down g) u (n * up g * down e) (down e * down g)) p.0
    ∙ ap (λ (z : Bool). sum f s (m * up e * down g) z (n * up g * down e) (down e * down g)) q.0
    ∙ sum_scale f s t (m * up e * down g) (n * up g * down e) (a * d) (b * c) (down e * down g) (c * d) (mul-pos (down_pos e) (down_pos g)) (mul-pos C D)
    (cross (m * up e) a c (n * up g) b d (down e) (down g) p.1) (cross' a c (n * up g) b d (down e) (down g) q.1)

pub neg_value : (y : Float) (t : Bool) (b d : ℕ) → HasValue y t b d → HasValue (neg y) (not t) b d
unfolding neg
neg_value nan t b d q = absurd q
neg_value (inf u) t b d q = absurd q
neg_value (fin u n g) t b d q = (ap not q.0, q.1)

pub sub_values : (f : Format) (x y : Float) (s t : Bool) (a c b d : ℕ) → 0 < c → 0 < d → HasValue x s a c → HasValue y t b d → sub f x y ≡ sum f s (a * d) (not t) (b * c) (c * d)
unfolding sub
sub_values f x y s t a c b d C D p q = add_values f x (neg y) s (not t) a c b d C D p (neg_value y t b d q)

pub mul_values : (f : Format) (x y : Float) (s t : Bool) (a c b d : ℕ) → 0 < c → 0 < d → HasValue x s a c → HasValue y t b d → mul f x y ≡ round f (unlike s t) (a * b) (c * d)
unfolding mul
mul_values f nan y s t a c b d C D p q = absurd p
mul_values f (inf r) y s t a c b d C D p q = absurd p
mul_values f (fin r m e) nan s t a c b d C D p q = absurd q
mul_values f (fin r m e) (inf u) s t a c b d C D p q = absurd q
mul_values f (fin r m e) (fin u n g) s t a c b d C D p q =
    ap (λ (z : Bool). round f (unlike z u) (m * up e * (n * up g)) (down e * down g)) p.0
    ∙ ap (λ (z : Bool). round f (unlike s z) (m * up e * (n * up g)) (down e * down g)) q.0
    ∙ round_same f (unlike s t) (m * up e * (n * up g)) (down e * down g) (a * b) (c * d) (mul-pos (down_pos e) (down_pos g)) (mul-pos C D)
    (mul-mul-mul_comm (m * up e) (n * up g) c d ∙ ap (λ (z : ℕ). z * (n * up g * d)) p.1 ∙ ap (λ (z : ℕ). a * down e * z) q.1 ∙ mul-mul-mul_comm a (down e) b (down g))

-- a divisor other than zero
nonzero_m : (n : ℕ) (g : ℤ) (b d : ℕ) → n * up g * d ≡ b * down g → 0 < b → 0 < n * up g
nonzero_m n g b d q B = first_pos (n * up g) d (subst (λ (z : ℕ). 0 < z) (sym q) (mul-pos B (down_pos g)))

pub div_values : (f : Format) (x y : Float) (s t : Bool) (a c b d : ℕ) → 0 < c → 0 < d → 0 < b → HasValue x s a c → HasValue y t b d → div f x y ≡ round f (unlike s t) (a * d) (b * c)
unfolding div
div_values f nan y s t a c b d C D B p q = absurd p
div_values f (inf r) y s t a c b d C D B p q = absurd p
div_values f (fin r m e) nan s t a c b d C D B p q = absurd q
div_values f (fin r m e) (inf u) s t a c b d C D B p q = absurd q
div_values f (fin r m e) (fin u n g) s t a c b d C D B p q =
    let N : 0 < n * up g = nonzero_m n g b d q.1 B in
    cond_no (eqb n 0) _ _ (not_zero_test n (first_pos n (up g) N))
    ∙ ap (λ (z : Bool). round f (unlike z u) (m * up e * down g) (n * up g * down e)) p.0
    ∙ ap (λ (z : Bool). round f (unlike s z) (m * up e * down g) (n * up g * down e)) q.0
    ∙ round_same f (unlike s t) (m * up e * down g) (n * up g * down e) (a * d) (b * c) (mul-pos N (down_pos e)) (mul-pos B C)
    (turned (m * up e) a c (n * up g) b d (down e) (down g) p.1 q.1)

pub or_le : (a b : ℕ) → (ltb a b || (eqb a b && true)) ≡ leb a b
or_le a b = same_test (ltb a b || (eqb a b && true)) (leb a b) (λ t. le→leb a b (one (ltb a b) (eqb a b) (ltb→lt a b) (eqb→eq a b) t)) (λ t. two (eq-or-lt_of_le (leb→le a b t)))
  where
    one : (x y : Bool) → (T x → a < b) → (T y → a ≡ b) → T (x || (y && true)) → a ≤ b
    one true y p q t = le_of_lt (p tt)
    one false true p q t = le_of_eq (q tt)
    one false false p q t = absurd t

    right_or : (x y : Bool) → T y → T (x || (y && true))
    right_or true y t = tt
    right_or false true t = tt
    right_or false false t = t

    two : (a ≡ b) ⊎ (a < b) → T (ltb a b || (eqb a b && true))
    two (inl e) = right_or (ltb a b) (eqb a b) (eq→eqb e)
    two (inr l) = or_first (ltb a b) (eqb a b && true) (lt→ltb a b l)

-- ---- from one fraction to another of the same size
pub rescale : (x : Float) (s : Bool) (a c b d : ℕ) → 0 < c → b * c ≡ a * d → HasValue x s a c → HasValue x s b d
rescale nan s a c b d C h v = v
rescale (inf t) s a c b d C h v = v
rescale (fin t m e) s a c b d C h v = (
  v.0,
  eq_of_mul-eq-mul_right c C (m * up e * d) (b * down e)
      (mul_right_comm (m * up e) d c ∙ ap (λ (x : ℕ). x * d) v.1 ∙ mul_right_comm a (down e) d ∙ ap (λ (x : ℕ). x * down e) (sym h) ∙ mul_right_comm b c (down e)),
)

-- ---- the larger and the smaller of two numbers that are not negative
pub larger : (x y : Float) (a b c : ℕ) → 0 < c → HasValue x false a c → HasValue y false b c → HasValue (cond (lt x y) y x) false (a + (b - a)) c
larger x y a b c C v w = subst (λ (d : Bool). HasValue (cond d y x) false (a + (b - a)) c) (sym (lt_values x y false false a c b c C C v w)) (go (ltb (a * c) (b * c)) refl)
  where
    more : (a b : ℕ) → a < b → a + (b - a) ≡ b
    more a b h = omega arith

    less : (a b : ℕ) → b ≤ a → a + (b - a) ≡ a
    less a b h = omega arith

    go : (d : Bool) → ltb (a * c) (b * c) ≡ d → HasValue (cond d y x) false (a + (b - a)) c
    go true e = subst (λ (k : ℕ). HasValue y false k c) (sym (more a b (lt_of_mul-lt-mul_right c (ltb-true (a * c) (b * c) e)))) w
    go false e = subst (λ (k : ℕ). HasValue x false k c) (sym (less a b (le_of_mul-le-mul_right (ltb-false (a * c) (b * c) e) C))) v

pub smaller : (x y : Float) (a b c : ℕ) → 0 < c → HasValue x false a c → HasValue y false b c → HasValue (cond (lt x y) x y) false (min a b) c
smaller x y a b c C v w = subst (λ (d : Bool). HasValue (cond d x y) false (min a b) c) (sym (lt_values x y false false a c b c C C v w)) (go (ltb (a * c) (b * c)) refl)
  where
    less : (a b : ℕ) → a < b → min a b ≡ a
    less a b h = omega arith

    more : (a b : ℕ) → b ≤ a → min a b ≡ b
    more a b h = omega arith

    go : (d : Bool) → ltb (a * c) (b * c) ≡ d → HasValue (cond d x y) false (min a b) c
    go true e = subst (λ (k : ℕ). HasValue x false k c) (sym (less a b (lt_of_mul-lt-mul_right c (ltb-true (a * c) (b * c) e)))) v
    go false e = subst (λ (k : ℕ). HasValue y false k c) (sym (more a b (le_of_mul-le-mul_right (ltb-false (a * c) (b * c) e) C))) w
