-- Orders of integers and of sums. An integer is plus z - minus z, so that an order of integers, said of these parts, is one `omega`. Cited by the laws of offers.
-- Assumes nothing.
use mathlib.Core.Path.{◌≡◌}
use mathlib.Core.Bool.{Bool, true, false, cond}
use Prim.Native.Nat.{ℕ, zero, suc, ◌+◌, ◌≤◌, ◌<◌}
use native.Mathlib.Nat.{mul-one, add-zero}
use native.Mathlib.Omega.{arith}
use lib.IntN.{ℤ, pos, ◌+ℤ◌, ◌*ℤ◌, *ℤ-zero}
use Rattle.integers.specs.Sums.{sum}
use Rattle.integers.proofs.Parts.{plus, minus, same, add_parts, scale_parts, scale_add, exchange}
use Rattle.orders.specs.Count.{count}

-- x is at most y + c
abbrev pub AtMost : ℤ → ℤ → ℕ → Type 0
AtMost x y c = plus x + minus y ≤ plus y + minus x + c

-- a sum exceeds another by at most the count of the places where a term may exceed the other's by 1
pub sum_at_most : (x y : ℕ → ℤ) (t : ℕ → Bool) (n : ℕ) → ((k : ℕ) → k < n → AtMost (x k) (y k) (cond (t k) 1 0)) → AtMost (sum x n) (sum y n) (count t n)
unfolding sum
sum_at_most x y t zero h = omega arith
sum_at_most x y t (suc n) h =
    omega (arith, sum_at_most x y t n (λ k l. h k (omega arith)), h n (omega arith), add_parts (sum x n) (x n), add_parts (sum y n) (y n))

scale_one : (z : ℤ) → z *ℤ pos 1 ≡ z
scale_one z = same (z *ℤ pos 1) z (omega (arith, scale_parts z 1, mul-one (plus z), mul-one (minus z)))

-- every term that passes the test goes by z: the sum goes by z for each
pub sum_moved : (w : ℕ → ℤ) (z : ℤ) (t : ℕ → Bool) (n : ℕ) → sum (λ k. cond (t k) (w k +ℤ z) (w k)) n ≡ sum w n +ℤ z *ℤ pos (count t n)
unfolding sum
sum_moved w z t zero = rw (*ℤ-zero z)
sum_moved w z t (suc n) = go (t n) (sum_moved w z t n)
  where
    go : (b : Bool) → sum (λ k. cond (t k) (w k +ℤ z) (w k)) n ≡ sum w n +ℤ z *ℤ pos (count t n)
        → sum (λ k. cond (t k) (w k +ℤ z) (w k)) n +ℤ cond b (w n +ℤ z) (w n) ≡ sum w n +ℤ w n +ℤ z *ℤ pos (count t n + cond b 1 0)
    go true h = rw (h, scale_add z (count t n) 1, scale_one z) (exchange (sum w n) (z *ℤ pos (count t n)) (w n) z)
    go false h =
        rw (h, add-zero)
        (same (sum w n +ℤ z *ℤ pos (count t n) +ℤ w n) (sum w n +ℤ w n +ℤ z *ℤ pos (count t n))
        (omega (arith, add_parts (sum w n +ℤ z *ℤ pos (count t n)) (w n), add_parts (sum w n +ℤ w n) (z *ℤ pos (count t n)), add_parts (sum w n) (z *ℤ pos (count t n)), add_parts (sum w n) (w n))))
