-- Floats of either sign, bounded in size (`AtMost`). Rounding does not cross a whole number that the format holds, so a sum or a product of
-- bounded numbers is bounded, and finite. Cited by the f32 pass and by the Box promise. Assumes nothing.
use mathlib.Core.Path.{sym, ap, ◌∙◌, subst}
use mathlib.Core.Bool.{Bool, true, false, ◌&&◌, beq, cond}
use Prim.Native.Nat.{ℕ, ◌+◌, ◌-◌, ◌*◌, ◌≤◌, ◌<◌}
use native.Mathlib.Nat.{le_trans, le_of_eq, zero-lt-suc, mul-one, mul_comm, mul_assoc, mul-le-mul, mul-le-mul_right, mul-pos, mul-mul-mul_comm, add-mul, add-le-add}
use native.Mathlib.Omega.{arith}
use lib.Dec.{T, ltb}
use lib.Ieee.{Float, nan, inf, fin, Format, up, down, unlike, round, neg, sum, add, sub, mul}
use lib.Ieee.Fits.{down_pos}
use lib.Ieee.Exact.{HasValue}
use lib.Ieee.Order.{round_mono}
use lib.Ieee.Scale.{finite}
use Rattle.floats.proofs.Laws.{round_neg}
use Rattle.floats.specs.Within.{Within, AtMost}
use Rattle.floats.proofs.Within.{below_whole, round_unsigned}

pub finite_at : (x : Float) (n : ℕ) → AtMost x n → T (finite x)
finite_at nan n h = absurd h
finite_at (inf s) n h = absurd h
finite_at (fin s m e) n h = tt

pub within_at : (x : Float) (n : ℕ) → Within x n → AtMost x n
within_at nan n h = absurd h
within_at (inf s) n h = absurd h
within_at (fin true m e) n h = absurd h
within_at (fin false m e) n h = h

pub neg_at : (x : Float) (n : ℕ) → AtMost x n → AtMost (neg x) n
unfolding neg
neg_at nan n h = h
neg_at (inf s) n h = h
neg_at (fin s m e) n h = h

pub at_more : (x : Float) (m n : ℕ) → m ≤ n → AtMost x m → AtMost x n
at_more nan m n h p = p
at_more (inf s) m n h p = p
at_more (fin s k e) m n h p = le_trans p (mul-le-mul_right (down e) h)

round_plus : (f : Format) (a c n : ℕ) → 0 < c → HasValue (round f false n 1) false n 1 → a ≤ n * c → AtMost (round f false a c) n
round_plus f a c n C v h =
    within_at (round f false a c) n (below_whole (round f false a c) (round f false n 1) n (round_unsigned f a c) v (round_mono f a c n 1 C (zero-lt-suc 0) (le_trans (le_of_eq (mul-one a)) h)))

pub round_at : (f : Format) (s : Bool) (a c n : ℕ) → 0 < c → HasValue (round f false n 1) false n 1 → a ≤ n * c → AtMost (round f s a c) n
round_at f false a c n C v h = round_plus f a c n C v h
round_at f true a c n C v h = subst (λ (x : Float). AtMost x n) (round_neg f false a c) (neg_at (round f false a c) n (round_plus f a c n C v h))

pub mul_at : (f : Format) (x y : Float) (A B : ℕ) → AtMost x A → AtMost y B → HasValue (round f false (A * B) 1) false (A * B) 1 → AtMost (mul f x y) (A * B)
unfolding mul
mul_at f nan y A B p q v = absurd p
mul_at f (inf s) y A B p q v = absurd p
mul_at f (fin s m e) nan A B p q v = absurd q
mul_at f (fin s m e) (inf t) A B p q v = absurd q
mul_at f (fin s m e) (fin t n d) A B p q v =
    round_at f (unlike s t) (m * up e * (n * up d)) (down e * down d) (A * B) (mul-pos (down_pos e) (down_pos d)) v (le_trans (mul-le-mul p q) (le_of_eq (mul-mul-mul_comm A (down e) B (down d))))

pub sum_at : (f : Format) (s t : Bool) (a b c n : ℕ) → 0 < c → HasValue (round f false n 1) false n 1 → a + b ≤ n * c → AtMost (sum f s a t b c) n
unfolding sum
sum_at f s t a b c n C v h = go (beq s t) (ltb a b)
  where
    left : (a b m : ℕ) → a + b ≤ m → a - b ≤ m
    left a b m h = omega arith

    right : (a b m : ℕ) → a + b ≤ m → b - a ≤ m
    right a b m h = omega arith

    go : (x y : Bool) → AtMost (cond x (round f s (a + b) c) (cond y (round f t (b - a) c) (round f (s && ltb b a) (a - b) c))) n
    go true y = round_at f s (a + b) c n C v h
    go false true = round_at f t (b - a) c n C v (right a b (n * c) h)
    go false false = round_at f (s && ltb b a) (a - b) c n C v (left a b (n * c) h)

pub add_at : (f : Format) (x y : Float) (A B : ℕ) → AtMost x A → AtMost y B → HasValue (round f false (A + B) 1) false (A + B) 1 → AtMost (add f x y) (A + B)
unfolding add
add_at f nan y A B p q v = absurd p
add_at f (inf s) y A B p q v = absurd p
add_at f (fin s m e) nan A B p q v = absurd q
add_at f (fin s m e) (inf t) A B p q v = absurd q
add_at f (fin s m e) (fin t n d) A B p q v =
    sum_at f s t (m * up e * down d) (n * up d * down e) (down e * down d) (A + B) (mul-pos (down_pos e) (down_pos d)) v
    (le_trans (add-le-add (le_trans (mul-le-mul_right (down d) p) (le_of_eq (mul_assoc A (down e) (down d)))) (le_trans (mul-le-mul_right (down e) q) (le_of_eq (mul_assoc B (down d) (down e) ∙ ap (λ (z : ℕ). B * z) (mul_comm (down d) (down e))))))
    (le_of_eq (sym (add-mul A B (down e * down d)))))

pub sub_at : (f : Format) (x y : Float) (A B : ℕ) → AtMost x A → AtMost y B → HasValue (round f false (A + B) 1) false (A + B) 1 → AtMost (sub f x y) (A + B)
unfolding sub
sub_at f x y A B p q v = add_at f x (neg y) A B p (neg_at y B q) v
