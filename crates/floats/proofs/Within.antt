-- Bounds from 0 to a whole number: rounding never crosses a whole number, so sums stay within the sum of the bounds. Cited by the builder's bounds.
-- Assumes nothing.
use mathlib.Core.Path.{◌≡◌, refl, sym, ap, ◌∙◌, subst}
use mathlib.Core.Bool.{Bool, true, false, not, ◌&&◌, ◌||◌, true≢false}
use Prim.Native.Nat.{ℕ, ◌+◌, ◌-◌, ◌*◌, ◌^◌, ◌≤◌, ◌<◌}
use native.Mathlib.Nat.{le_trans, le_of_eq, zero-lt-suc, mul-one, mul_comm, mul_assoc, mul_right_comm, add-mul, mul-le-mul_right, le_of_mul-le-mul_right, mul-pos}
use native.Mathlib.Omega.{arith}
use lib.Dec.{T, ltb, eqb, leb→le}
use lib.Arith.{le→nltb}
use lib.Ieee.{Float, nan, inf, fin, Format, binary64, prec, up, down, round, sum, add, le}
use lib.Ieee.Fits.{down_pos}
use lib.Ieee.Exact.{HasValue}
use lib.Ieee.Back.{round_whole}
use lib.Ieee.Order.{round_mono}
use lib.Ieee.Positive.{num, den, den_pos}
use lib.Ieee.Bits.{cond_no}
use Rattle.floats.proofs.Value.{add_values, like_signs, or_le}
use Rattle.floats.specs.Within.{Within}
use Rattle.floats.proofs.Laws.{round_as}

pub within_value : (x : Float) (n : ℕ) → Within x n → HasValue x false (num x) (den x) × (num x ≤ n * den x)
within_value nan n h = absurd h
within_value (inf s) n h = absurd h
within_value (fin true m e) n h = absurd h
within_value (fin false m e) n h = ((refl, refl), h)

-- ---- `round f false` gives no NaN and nothing negative
abbrev pub unsigned : Float → Bool
unsigned nan = false
unsigned (inf s) = not s
unsigned (fin s m e) = not s

pub round_unsigned : (f : Format) (a c : ℕ) → T (unsigned (round f false a c))
round_unsigned f a c = round_as (λ (x : Float). T (unsigned x)) f false a c (λ m e. tt) tt

-- ---- the order against a whole number
lt_or_eq : (a b : ℕ) → T (ltb a b || (eqb a b && true)) → a ≤ b
lt_or_eq a b t = leb→le a b (subst T (or_le a b) t)

pub below_whole : (x y : Float) (n : ℕ) → T (unsigned x) → HasValue y false n 1 → T (le x y) → Within x n
unfolding le
below_whole nan y n u v h = absurd u
below_whole (inf true) y n u v h = absurd u
below_whole (inf false) nan n u v h = absurd v
below_whole (inf false) (inf t) n u v h = absurd v
below_whole (inf false) (fin t k d) n u v h = absurd h
below_whole (fin true m e) y n u v h = absurd u
below_whole (fin false m e) nan n u v h = absurd v
below_whole (fin false m e) (inf t) n u v h = absurd v
below_whole (fin false m e) (fin true k d) n u v h = absurd (true≢false v.0)
below_whole (fin false m e) (fin false k d) n u v h =
    le_of_mul-le-mul_right
    (le_trans (lt_or_eq (m * up e * down d) (k * up d * down e) h) (le_of_eq (ap (λ (z : ℕ). z * down e) (sym (mul-one (k * up d)) ∙ v.1) ∙ mul_right_comm n (down d) (down e))))
    (down_pos d)

above_whole : (x y : Float) (n N : ℕ) → HasValue x false n 1 → Within y N → T (le x y) → n * den y ≤ num y
unfolding le
above_whole nan y n N v w h = absurd v
above_whole (inf s) y n N v w h = absurd v
above_whole (fin true m e) y n N v w h = absurd (true≢false v.0)
above_whole (fin false m e) nan n N v w h = absurd w
above_whole (fin false m e) (inf t) n N v w h = absurd w
above_whole (fin false m e) (fin true k d) n N v w h = absurd w
above_whole (fin false m e) (fin false k d) n N v w h =
    le_of_mul-le-mul_right
    (le_trans (le_of_eq (mul_right_comm n (down d) (down e) ∙ ap (λ (z : ℕ). z * down d) (sym v.1 ∙ mul-one (m * up e)))) (lt_or_eq (m * up e * down d) (k * up d * down e) h))
    (down_pos e)

-- ---- rounding does not cross a whole number
pub round_within : (f : Format) (a c n : ℕ) → 0 < c → n ≤ 2 ^ prec f → a ≤ n * c → Within (round f false a c) n
round_within f a c n C N h =
    below_whole (round f false a c) (round f false n 1) n (round_unsigned f a c) (round_whole f false n N) (round_mono f a c n 1 C (zero-lt-suc 0) (le_trans (le_of_eq (mul-one a)) h))

pub round_above : (f : Format) (a c n N : ℕ) → 0 < c → n ≤ 2 ^ prec f → Within (round f false a c) N → n * c ≤ a → n * den (round f false a c) ≤ num (round f false a c)
round_above f a c n N C M w h =
    above_whole (round f false n 1) (round f false a c) n N (round_whole f false n M) w (round_mono f n 1 a c (zero-lt-suc 0) C (le_trans h (le_of_eq (sym (mul-one a)))))

-- fractions a / p and b / q against whole numbers
sum_le : (a p b q A B : ℕ) → a ≤ A * p → b ≤ B * q → a * q + b * p ≤ (A + B) * (p * q)
sum_le a p b q A B h k =
    let x : a * q ≤ A * (p * q) = le_trans (mul-le-mul_right q h) (le_of_eq (mul_assoc A p q)) in
    let y : b * p ≤ B * (p * q) = le_trans (mul-le-mul_right p k) (le_of_eq (mul_assoc B q p ∙ ap (λ (z : ℕ). B * z) (mul_comm q p))) in
    let z : (A + B) * (p * q) ≡ A * (p * q) + B * (p * q) = add-mul A B (p * q) in
    omega arith

pub unlike_signs : (f : Format) (x y c : ℕ) → y ≤ x → sum f false x true y c ≡ round f false (x - y) c
unfolding sum
unlike_signs f x y c h = cond_no (ltb x y) (round f true (y - x) c) (round f false (x - y) c) (le→nltb x y h)

-- ---- the two ends
pub within_add : (c r : Float) (A B : ℕ) → Within c A → Within r B → A + B ≤ 2 ^ 53 → Within (add binary64 c r) (A + B)
within_add c r A B C R l =
    let v = within_value c A C in
    let w = within_value r B R in
    subst (λ (x : Float). Within x (A + B))
    (sym (add_values binary64 c r false false (num c) (den c) (num r) (den r) (den_pos c) (den_pos r) v.0 w.0 ∙ like_signs binary64 (num c * den r) (num r * den c) (den c * den r)))
    (round_within binary64 (num c * den r + num r * den c) (den c * den r) (A + B) (mul-pos (den_pos c) (den_pos r)) l (sum_le (num c) (den c) (num r) (den r) A B v.1 w.1))
