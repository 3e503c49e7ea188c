-- Only the weights below n matter to the total of n, and so to their excess. Cited by the normalisers, the readers and the promises. Assumes nothing.
use mathlib.Core.Path.{◌≡◌, refl, ap}
use Prim.Native.Nat.{ℕ, zero, suc, ◌^◌, ◌<◌}
use native.Mathlib.Omega.{arith}
use lib.IntN.{ℤ, pos, ◌-ℤ◌}
use Rattle.integers.specs.Sums.{sum}
use Rattle.windows.specs.Set.{excess}

module _ (f g : ℕ → ℤ) where
  pub sum_ext : (n : ℕ) → ((k : ℕ) → k < n → f k ≡ g k) → sum f n ≡ sum g n
  unfolding sum
  sum_ext zero h = refl
  sum_ext (suc n) h = rw (sum_ext n (λ k l. h k (omega arith)), h n (omega arith))

  pub excess_ext : (p n : ℕ) → ((k : ℕ) → k < n → f k ≡ g k) → excess p f n ≡ excess p g n
  unfolding excess
  excess_ext p n h = ap (λ (z : ℤ). z -ℤ pos (2 ^ p)) (sum_ext n h)
