-- A whole number of halves as a double (`halves`): a product of two whole numbers added to it gives the sum's double, with no rounding, while all stay below
-- 2 ^ 53. Cited by the u16 pass, whose sums in doubles are exact by it. Assumes nothing.
use mathlib.Core.Path.{◌≡◌, refl, sym, ap, ◌∙◌, subst}
use mathlib.Core.Bool.{Bool, true, false, ◌&&◌, cond}
use Prim.Native.Nat.{ℕ, suc, ◌+◌, ◌-◌, ◌*◌, ◌^◌, ◌≤◌, ◌<◌}
use native.Mathlib.Nat.{zero-lt-suc, mul-one, mul_comm}
use native.Mathlib.Omega.{arith}
use lib.Dec.{ltb, lit≤}
use lib.IntN.{ℤ, pos, negsuc, nat_abs, ◌+ℤ◌, ◌*ℤ◌}
use lib.Ieee.{Float, binary64, round, sum, add, mul, of_int}
use lib.Ieee.Exact.{HasValue}
use lib.Ieee.Back.{round_whole}
use borrow.Author.Tests.{ltb-true, ltb-false}
use Rattle.floats.proofs.Value.{add_values, mul_values}
use Rattle.floats.proofs.Laws.{exact_down}
use Rattle.integers.proofs.Parts.{plus, minus, add_parts, scale_parts}
use Rattle.floats.specs.Halves.{halves}

-- ---- the values
abbrev pub negative : ℤ → Bool
negative (pos n) = false
negative (negsuc n) = true

half_round : (s : Bool) (n : ℕ) → n < 2 ^ 53 → HasValue (round binary64 s n 2) s n 2
half_round s n h = subst (λ (z : ℕ). HasValue (round binary64 s z 2) s z 2) (mul-one n) (exact_down binary64 s n 0 h (lit≤ tt))

pub halves_value : (z : ℤ) → nat_abs z < 2 ^ 53 → HasValue (halves z) (negative z) (nat_abs z) 2
unfolding halves
halves_value (pos n) h = half_round false n h
halves_value (negsuc n) h = half_round true (suc n) h

int_value : (z : ℤ) → nat_abs z ≤ 2 ^ 53 → HasValue (of_int binary64 z) (negative z) (nat_abs z) 1
unfolding of_int
int_value (pos n) h = round_whole binary64 false n h
int_value (negsuc n) h = round_whole binary64 true (suc n) h

product_value : (w : ℤ) (s : ℕ) → s ≤ 2 ^ 53 → nat_abs w ≤ 2 ^ 53 → s * nat_abs w ≤ 2 ^ 53 → HasValue (mul binary64 (of_int binary64 (pos s)) (of_int binary64 w)) (negative w) (s * nat_abs w) 1
product_value (pos n) s hs hw h =
    subst (λ (x : Float). HasValue x false (s * n) 1) (sym (mul_values binary64 (of_int binary64 (pos s)) (of_int binary64 (pos n)) false false s 1 n 1 (zero-lt-suc 0) (zero-lt-suc 0) (int_value (pos s) hs) (int_value (pos n) hw)))
    (round_whole binary64 false (s * n) h)
product_value (negsuc n) s hs hw h =
    subst (λ (x : Float). HasValue x true (s * suc n) 1) (sym (mul_values binary64 (of_int binary64 (pos s)) (of_int binary64 (negsuc n)) false true s 1 (suc n) 1 (zero-lt-suc 0) (zero-lt-suc 0) (int_value (pos s) hs) (int_value (negsuc n) hw)))
    (round_whole binary64 true (s * suc n) h)

-- ---- y halves, by the parts of y
halves_plus : (y : ℤ) (m : ℕ) → plus y ≡ m + minus y → round binary64 false m 2 ≡ halves y
unfolding halves plus minus
halves_plus (pos n) m h = ap (λ (k : ℕ). round binary64 false k 2) (omega arith)
halves_plus (negsuc n) m h = absurd (omega arith)

halves_minus : (y : ℤ) (m : ℕ) → 0 < m → plus y + m ≡ minus y → round binary64 true m 2 ≡ halves y
unfolding halves plus minus
halves_minus (pos n) m l h = absurd (omega arith)
halves_minus (negsuc n) m l h = ap (λ (k : ℕ). round binary64 true k 2) (omega arith)

-- a and b halves with the signs s and t, added; a zero is no negative one
sum_plus : (a b : ℕ) (y : ℤ) → plus y ≡ a + b + minus y → sum binary64 false a false b 2 ≡ halves y
unfolding sum
sum_plus a b y h = halves_plus y (a + b) h

sum_minus : (a b : ℕ) (y : ℤ) → 0 < a → plus y + (a + b) ≡ minus y → sum binary64 true a true b 2 ≡ halves y
unfolding sum
sum_minus a b y l h = halves_minus y (a + b) (omega arith) h

sum_less : (a b : ℕ) (y : ℤ) → plus y + b ≡ a + minus y → sum binary64 false a true b 2 ≡ halves y
unfolding sum
sum_less a b y h = go (ltb a b) refl
  where
    go : (d : Bool) → ltb a b ≡ d → cond d (round binary64 true (b - a) 2) (round binary64 (false && ltb b a) (a - b) 2) ≡ halves y
    go true e = let l : a < b = ltb-true a b e in halves_minus y (b - a) (omega arith) (omega arith)
    go false e = let l : b ≤ a = ltb-false a b e in halves_plus y (a - b) (omega arith)

sum_more : (a b : ℕ) (y : ℤ) → plus y + a ≡ b + minus y → sum binary64 true a false b 2 ≡ halves y
unfolding sum
sum_more a b y h = go (ltb a b) (ltb b a) refl refl
  where
    go : (d g : Bool) → ltb a b ≡ d → ltb b a ≡ g → cond d (round binary64 false (b - a) 2) (round binary64 (true && g) (a - b) 2) ≡ halves y
    go true g e k = let l : a < b = ltb-true a b e in halves_plus y (b - a) (omega arith)
    go false true e k = let l : b < a = ltb-true b a k in halves_minus y (a - b) (omega arith) (omega arith)
    go false false e k = let l : b ≤ a = ltb-false a b e in let r : a ≤ b = ltb-false b a k in halves_plus y (a - b) (omega arith)

sum_signed : (z w y : ℤ) (s : ℕ) → plus y + (minus z + s * minus w * 2) ≡ plus z + s * plus w * 2 + minus y → sum binary64 (negative z) (nat_abs z) (negative w) (s * nat_abs w * 2) 2 ≡ halves y
unfolding plus minus
sum_signed (pos a) (pos n) y s h = sum_plus a (s * n * 2) y (omega arith)
sum_signed (pos a) (negsuc n) y s h = sum_less a (s * suc n * 2) y (omega arith)
sum_signed (negsuc a) (pos n) y s h = sum_more (suc a) (s * n * 2) y (omega arith)
sum_signed (negsuc a) (negsuc n) y s h = sum_minus (suc a) (s * suc n * 2) y (omega arith) (omega arith)

sum_halves : (z w : ℤ) (s : ℕ) → sum binary64 (negative z) (nat_abs z) (negative w) (s * nat_abs w * 2) 2 ≡ halves (z +ℤ (w *ℤ pos s +ℤ w *ℤ pos s))
sum_halves z w s =
    let t = w *ℤ pos s in
    let p : plus w * s ≡ s * plus w = mul_comm (plus w) s in
    let m : minus w * s ≡ s * minus w = mul_comm (minus w) s in
    sum_signed z w (z +ℤ (t +ℤ t)) s (omega (arith, scale_parts w s, add_parts z (t +ℤ t), add_parts t t))

pub step_halves : (z w : ℤ) (s : ℕ) → nat_abs z < 2 ^ 53 → s ≤ 2 ^ 53 → nat_abs w ≤ 2 ^ 53 → s * nat_abs w ≤ 2 ^ 53 → add binary64 (halves z) (mul binary64 (of_int binary64 (pos s)) (of_int binary64 w)) ≡ halves (z +ℤ (w *ℤ pos s +ℤ w *ℤ pos s))
step_halves z w s hz hs hw h =
    add_values binary64 (halves z) (mul binary64 (of_int binary64 (pos s)) (of_int binary64 w)) (negative z) (negative w) (nat_abs z) 2 (s * nat_abs w) 1 (zero-lt-suc 1) (zero-lt-suc 0) (halves_value z hz) (product_value w s hs hw h)
    ∙ ap (λ (n : ℕ). sum binary64 (negative z) n (negative w) (s * nat_abs w * 2) 2) (mul-one (nat_abs z)) ∙ sum_halves z w s
