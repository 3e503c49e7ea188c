-- A weight is at most 2^64 in size exactly when two comparisons say so. Cited by `weight_fits` and by `Judged`. Assumes nothing.
use mathlib.Core.Path.{◌≡◌, sym}
use mathlib.Core.Bool.{Bool, true, false, ◌&&◌, ◌||◌}
use Prim.Native.Nat.{ℕ, ◌+◌, ◌*◌, ◌^◌, ◌≤◌, ◌<◌}
use native.Mathlib.Nat.{le_trans, le_of_eq, le_of_lt, eq-or-lt_of_le, mul-one, mul-pos}
use native.Mathlib.Omega.{arith}
use mathlib.Core.Logic.{◌⊎◌, inl, inr}
use lib.Dec.{T, ltb, eqb, eqb→eq, ltb→lt, lt→ltb, lit<}
use lib.Ieee.{Float, nan, inf, fin, binary64, up, down, neg, le, of_bits}
use lib.Ieee.Fits.{down_pos, eq→eqb}
use Rattle.floats.specs.Within.{AtMost}

-- ---- a weight's size
abbrev limit : Float
limit = of_bits binary64 0x43f0000000000000

le_to : (a b : ℕ) (c : Bool) → T (ltb a b || (eqb a b && c)) → a ≤ b
le_to a b c t = go (ltb a b) (eqb a b) (ltb→lt a b) (eqb→eq a b) t
  where
    go : (x y : Bool) → (T x → a < b) → (T y → a ≡ b) → T (x || (y && c)) → a ≤ b
    go true y p q t = le_of_lt (p tt)
    go false true p q t = le_of_eq (q tt)
    go false false p q t = absurd t

le_from : (a b : ℕ) → a ≤ b → T (ltb a b || (eqb a b && true))
le_from a b h = go (eq-or-lt_of_le h)
  where
    left : (x y : Bool) → T x → T (x || y)
    left true y t = tt
    left false y t = absurd t

    right : (x y : Bool) → T y → T (x || (y && true))
    right true y t = tt
    right false true t = tt
    right false false t = t

    go : (a ≡ b) ⊎ (a < b) → T (ltb a b || (eqb a b && true))
    go (inl e) = right (ltb a b) (eqb a b) (eq→eqb e)
    go (inr l) = left (ltb a b) (eqb a b && true) (lt→ltb a b l)

above_zero : (a b : ℕ) (y : Bool) → 0 < b → T (ltb 0 (a + b) || y)
above_zero a b y h = go (ltb 0 (a + b)) (lt→ltb 0 (a + b) (more a b h))
  where
    more : (a b : ℕ) → 0 < b → 0 < a + b
    more a b h = omega arith

    go : (x : Bool) → T x → T (x || y)
    go true t = tt
    go false t = absurd t

above_zero' : (a b : ℕ) (y : Bool) → 0 < a → T (ltb 0 (a + b) || y)
above_zero' a b y h = go (ltb 0 (a + b)) (lt→ltb 0 (a + b) (more a b h))
  where
    more : (a b : ℕ) → 0 < a → 0 < a + b
    more a b h = omega arith

    go : (x : Bool) → T x → T (x || y)
    go true t = tt
    go false t = absurd t

pub weight_in : (w : Float) → T (le w (of_bits binary64 0x43f0000000000000)) → T (le (neg (of_bits binary64 0x43f0000000000000)) w) → AtMost w (2 ^ 64)
unfolding le neg of_bits
weight_in nan p q = absurd p
weight_in (inf true) p q = absurd q
weight_in (inf false) p q = absurd p
weight_in (fin false m e) p q = le_trans (le_of_eq (sym (mul-one (m * up e)))) (le_to (m * up e * 1) (2 ^ 64 * down e) true p)
weight_in (fin true m e) p q = le_trans (le_of_eq (sym (mul-one (m * up e)))) (turned (2 ^ 64 * down e) (m * up e * 1) q)
  where
    turned : (a b : ℕ) → T (ltb b a || (eqb a b && true)) → b ≤ a
    turned a b t = go (ltb b a) (eqb a b) (ltb→lt b a) (eqb→eq a b) t
      where
        go : (x y : Bool) → (T x → b < a) → (T y → a ≡ b) → T (x || (y && true)) → b ≤ a
        go true y p q t = le_of_lt (p tt)
        go false true p q t = le_of_eq (sym (q tt))
        go false false p q t = absurd t

pub weight_below : (w : Float) → AtMost w (2 ^ 64) → T (le w (of_bits binary64 0x43f0000000000000))
unfolding le of_bits
weight_below nan h = h
weight_below (inf s) h = absurd h
weight_below (fin false m e) h = le_from (m * up e * 1) (2 ^ 64 * down e) (le_trans (le_of_eq (mul-one (m * up e))) h)
weight_below (fin true m e) h = above_zero (m * up e * 1) (2 ^ 64 * down e) _ (mul-pos (lit< tt) (down_pos e))

pub weight_above : (w : Float) → AtMost w (2 ^ 64) → T (le (neg (of_bits binary64 0x43f0000000000000)) w)
unfolding le neg of_bits
weight_above nan h = h
weight_above (inf s) h = absurd h
weight_above (fin false m e) h = above_zero' (2 ^ 64 * down e) (m * up e * 1) _ (mul-pos (lit< tt) (down_pos e))
weight_above (fin true m e) h = turned (2 ^ 64 * down e) (m * up e * 1) (le_trans (le_of_eq (mul-one (m * up e))) h)
  where
    left : (x y : Bool) → T x → T (x || y)
    left true y t = tt
    left false y t = absurd t

    right : (x y : Bool) → T y → T (x || (y && true))
    right true y t = tt
    right false true t = tt
    right false false t = t

    turned : (a b : ℕ) → b ≤ a → T (ltb b a || (eqb a b && true))
    turned a b h = go (eq-or-lt_of_le h)
      where
        go : (b ≡ a) ⊎ (b < a) → T (ltb b a || (eqb a b && true))
        go (inl e) = right (ltb b a) (eqb a b) (eq→eqb (sym e))
        go (inr l) = left (ltb b a) (eqb a b && true) (lt→ltb b a l)
