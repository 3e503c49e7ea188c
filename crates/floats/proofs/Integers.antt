-- Whole numbers up to 2 ^ 53 as floats: sums, differences, products and comparisons are those of the numbers. And bounds that the operations keep.
-- Cited by the builder and by the Box promise. Assumes nothing.
use mathlib.Core.Path.{◌≡◌, refl, sym, ap, ◌∙◌, subst}
use mathlib.Core.Bool.{false}
use Prim.Native.Nat.{ℕ, ◌+◌, ◌-◌, ◌*◌, ◌^◌, ◌≤◌, ◌<◌}
use native.Mathlib.Nat.{le_trans, le_of_eq, zero-lt-suc, mul-one, one-mul, mul_comm, mul_assoc, mul-le-mul, mul-le-mul_right, mul-le-mul_left, mul-pos, mul-mul-mul_comm, sub-le}
use native.Mathlib.Omega.{arith}
use lib.IntN.{pos}
use lib.Dec.{T, lit≤, le→leb}
use lib.Ieee.{Float, binary64, round, add, sub, mul, div, of_int, of_bits, in_float}
use lib.Ieee.Exact.{HasValue}
use lib.Ieee.Back.{round_whole}
use lib.Ieee.Positive.{num, den, den_pos}
use Rattle.floats.proofs.Value.{add_values, sub_values, mul_values, div_values, like_signs}
use Rattle.floats.specs.Within.{Within}
use Rattle.floats.proofs.Within.{within_value, round_within, unlike_signs}
use Rattle.floats.proofs.Laws.{exact_down}

-- the float of a whole number
abbrev pub int : ℕ → Float
int n = round binary64 false n 1

pub int_value : (n : ℕ) → n ≤ 2 ^ 53 → HasValue (int n) false n 1
int_value n h = round_whole binary64 false n h

pub add_int : (a b : ℕ) → a + b ≤ 2 ^ 53 → add binary64 (int a) (int b) ≡ int (a + b)
add_int a b h =
    add_values binary64 (int a) (int b) false false a 1 b 1 (zero-lt-suc 0) (zero-lt-suc 0) (int_value a (l a b (2 ^ 53) h)) (int_value b (r a b (2 ^ 53) h))
    ∙ like_signs binary64 (a * 1) (b * 1) 1 ∙ ap (λ (z : ℕ). round binary64 false (z + b * 1) 1) (mul-one a) ∙ ap (λ (z : ℕ). round binary64 false (a + z) 1) (mul-one b)
  where
    l : (a b n : ℕ) → a + b ≤ n → a ≤ n
    l a b n h = omega arith

    r : (a b n : ℕ) → a + b ≤ n → b ≤ n
    r a b n h = omega arith

-- ---- what is from 0 to a whole number stays so
pub int_within : (n : ℕ) → n ≤ 2 ^ 53 → Within (int n) n
int_within n h = round_within binary64 n 1 n (zero-lt-suc 0) h (le_of_eq (sym (mul-one n)))

pub within_mul : (x y : Float) (A B : ℕ) → Within x A → Within y B → A * B ≤ 2 ^ 53 → Within (mul binary64 x y) (A * B)
within_mul x y A B X Y l =
    let v = within_value x A X in
    let w = within_value y B Y in
    subst (λ (z : Float). Within z (A * B)) (sym (mul_values binary64 x y false false (num x) (den x) (num y) (den y) (den_pos x) (den_pos y) v.0 w.0))
    (round_within binary64 (num x * num y) (den x * den y) (A * B) (mul-pos (den_pos x) (den_pos y)) l (le_trans (mul-le-mul v.1 w.1) (le_of_eq (mul-mul-mul_comm A (den x) B (den y)))))

-- a quotient by a whole number
pub within_div_int : (x : Float) (A n : ℕ) → Within x A → 0 < n → n ≤ 2 ^ 53 → A ≤ 2 ^ 53 → Within (div binary64 x (int n)) A
within_div_int x A n X N l k =
    let v = within_value x A X in
    subst (λ (z : Float). Within z A) (sym (div_values binary64 x (int n) false false (num x) (den x) n 1 (den_pos x) (zero-lt-suc 0) N v.0 (int_value n l)))
    (round_within binary64 (num x * 1) (n * den x) A (mul-pos N (den_pos x)) k (le_trans (le_of_eq (mul-one (num x))) (le_trans v.1 (mul-le-mul_left A (le_trans (le_of_eq (sym (one-mul (den x)))) (mul-le-mul_right (den x) N))))))

-- a difference that is not negative
pub within_sub : (x y : Float) (A B : ℕ) → Within x A → Within y B → A ≤ 2 ^ 53 → num y * den x ≤ num x * den y → Within (sub binary64 x y) A
within_sub x y A B X Y l h =
    let v = within_value x A X in
    let w = within_value y B Y in
    subst (λ (z : Float). Within z A)
    (sym (sub_values binary64 x y false false (num x) (den x) (num y) (den y) (den_pos x) (den_pos y) v.0 w.0 ∙ unlike_signs binary64 (num x * den y) (num y * den x) (den x * den y) h))
    (round_within binary64 (num x * den y - num y * den x) (den x * den y) A (mul-pos (den_pos x) (den_pos y)) l
    (le_trans (sub-le (num x * den y) (num y * den x)) (le_trans (mul-le-mul_right (den y) v.1) (le_of_eq (mul_assoc A (den x) (den y))))))

-- the whole number n as a float, and n + 1/2
pub whole_val : (n : ℕ) → n ≤ 2 ^ 53 → HasValue (of_int binary64 (pos n)) false n 1
unfolding of_int
whole_val n h = round_whole binary64 false n h

pub passes_float : (n : ℕ) → n ≤ 2 ^ 53 → T (in_float binary64 (pos n))
unfolding in_float
passes_float n h = le→leb n (2 ^ 53) h

half_round : (n : ℕ) → 2 * n + 1 < 2 ^ 53 → HasValue (round binary64 false (2 * n + 1) 2) false (2 * n + 1) 2
half_round n h = subst (λ (z : ℕ). HasValue (round binary64 false z 2) false z 2) (mul-one (2 * n + 1)) (exact_down binary64 false (2 * n + 1) 0 h (lit≤ tt))

pub half_val : (n : ℕ) → 2 * n + 1 < 2 ^ 53 → HasValue (add binary64 (of_int binary64 (pos n)) (of_bits binary64 0x3fe0_0000_0000_0000)) false (2 * n + 1) 2
half_val n h =
    subst (λ (x : Float). HasValue x false (2 * n + 1) 2)
    (sym (add_values binary64 (of_int binary64 (pos n)) (of_bits binary64 0x3fe0_0000_0000_0000) false false n 1 1 2 (zero-lt-suc 0) (zero-lt-suc 1) (whole_val n (up_to n (2 ^ 53) h)) (unfold of_bits in (refl, refl))
    ∙ like_signs binary64 (n * 2) (1 * 1) (1 * 2) ∙ ap (λ (z : ℕ). round binary64 false z 2) (ap (λ (z : ℕ). z + 1) (mul_comm n 2))))
    (half_round n h)
  where
    up_to : (n p : ℕ) → 2 * n + 1 < p → n ≤ p
    up_to n p h = omega arith
