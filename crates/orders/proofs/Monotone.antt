-- The formula of a pass keeps the order of the samples where no weight is negative: products and sums do, the division rounding down and the clip always. Over the
-- parts of an integer, as `AtMost`. Cited by the promise that there is no ringing. Assumes nothing.
use mathlib.Core.Path.{◌≡◌, refl, ap}
use mathlib.Core.Bool.{false}
use Prim.Native.Nat.{ℕ, zero, suc, ◌+◌, ◌-◌, ◌*◌, ◌^◌, ◌≤◌, ◌<◌}
use native.Mathlib.Nat.{mul-le-mul_left, lt_of_mul-lt-mul_right}
use native.Mathlib.Omega.{arith}
use lib.Pow.{pow_pos}
use lib.IntN.{ℤ, pos, negsuc, ◌+ℤ◌, ◌*ℤ◌}
use Rattle.lists.proofs.AnyLaws.{any_none}
use Rattle.lists.proofs.BoolLaws.{never}
use Rattle.integers.specs.Sums.{total, shifted, clipped, value}
use Rattle.integers.proofs.Parts.{plus, minus, add_parts, scale_parts}
use Rattle.integers.proofs.Floors.{Floor, floor}
use Rattle.orders.specs.Count.{count}
use Rattle.orders.specs.Negative.{negative, some_negative_value}
use Rattle.orders.proofs.SumOrders.{AtMost, sum_at_most}

pub not_negative : (z : ℤ) → negative z ≡ false → minus z ≡ 0
unfolding minus
not_negative (pos n) h = refl
not_negative (negsuc n) h = never h

pub add_mono : (x y u v : ℤ) (c d : ℕ) → AtMost x y c → AtMost u v d → AtMost (x +ℤ u) (y +ℤ v) (c + d)
add_mono x y u v c d h k = omega (arith, add_parts x u, add_parts y v)

pub scale_mono : (w : ℤ) (a b : ℕ) → negative w ≡ false → a ≤ b → AtMost (w *ℤ pos a) (w *ℤ pos b) 0
scale_mono w a b none h =
    let za : minus w * a ≡ 0 * a = ap (λ (m : ℕ). m * a) (not_negative w none) in
    let zb : minus w * b ≡ 0 * b = ap (λ (m : ℕ). m * b) (not_negative w none) in
    omega (arith, scale_parts w a, scale_parts w b, mul-le-mul_left (plus w) h)

-- no number passes a test that always fails
count_none : (n : ℕ) → count (λ k. false) n ≡ 0
count_none zero = refl
count_none (suc n) = omega (arith, count_none n)

pub total_mono : (w : ℕ → ℤ) (a b : ℕ → ℕ) (n : ℕ) → some_negative_value w n ≡ false → ((k : ℕ) → k < n → a k ≤ b k) → AtMost (total w a n) (total w b n) 0
total_mono w a b n none h =
    omega (
      arith,
      sum_at_most (λ k. w k *ℤ pos (a k)) (λ k. w k *ℤ pos (b k)) (λ k. false) n (λ k l. scale_mono (w k) (a k) (b k) (any_none (λ k. negative (w k)) n none k l) (h k l)),
      count_none n,
    )

floors_mono : (m : ℕ) (x y q r : ℤ) → AtMost x y 0 → Floor x m q → Floor y m r → AtMost q r 0
floors_mono m x y q r h f g =
    let a = plus q + minus r in
    let b = plus r + minus q in
    let l : a < b + 1 = lt_of_mul-lt-mul_right m {m = a} {n = b + 1} (omega (arith, f, g)) in omega arith

pub shifted_mono : (p : ℕ) (x y : ℤ) → AtMost x y 0 → AtMost (shifted p x) (shifted p y) 0
unfolding shifted
shifted_mono p x y h =
    let half = pos (2 ^ (p - 1)) in
    floors_mono (2 ^ p) (x +ℤ half) (y +ℤ half) _ _ (add_mono x y half half 0 0 h (omega arith)) (floor _ (pow_pos p)) (floor _ (pow_pos p))

pub clipped_mono : (M : ℕ) (x y : ℤ) → AtMost x y 0 → clipped M x ≤ clipped M y
unfolding clipped plus minus
clipped_mono M (pos a) (pos b) h = omega arith
clipped_mono M (pos a) (negsuc b) h = absurd (omega arith)
clipped_mono M (negsuc a) (pos b) h = omega arith
clipped_mono M (negsuc a) (negsuc b) h = omega arith

-- the value of n lines, whatever the largest sample and the precision
pub value_mono : (M p n : ℕ) (w : ℕ → ℤ) (a b : ℕ → ℕ) → some_negative_value w n ≡ false → ((k : ℕ) → k < n → a k ≤ b k) → value M p w a n ≤ value M p w b n
value_mono M p n w a b none h =
    clipped_mono M (shifted p (total w a n)) (shifted p (total w b n)) (shifted_mono p (total w a n) (total w b n) (total_mono w a b n none h))
