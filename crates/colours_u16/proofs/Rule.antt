-- Division by the reciprocal, over the largest component M and any even scale S = 2 H, the divisor a and the colour c, as plain numbers: R is the nearest whole number
-- to M S / a, and t is (c R + H) / S cut. R misses M S / a by a half at most, so c R misses c M S / a by c / 2, and t is off the nearest of c M / a only
-- by what c / (2 S) can move: nothing but at a half, since c a is below S. Cited by the laws of one colour. Assumes nothing.
use mathlib.Core.Path.{◌≡◌}
use Prim.Native.Nat.{ℕ, ◌+◌, ◌*◌, ◌≤◌, ◌<◌}
use native.Mathlib.Nat.{mul-le-mul_left, mul-le-mul_right, lt_of_mul-lt-mul_right}
use native.Mathlib.Omega.{arith}

module _ (M S H c a R t : ℕ) (twice : S ≡ H + H) (small : c * a < S)
    (R-low : R * (2 * a) ≤ 2 * (M * S) + a) (R-high : 2 * (M * S) + a < R * (2 * a) + 2 * a)
    (t-low : t * S ≤ c * R + H) (t-high : c * R + H < t * S + S) where
  pub not_above : 2 * (a * t) ≤ 2 * (c * M) + a
  not_above =
      let one : c * (R * (2 * a)) ≤ c * (2 * (M * S) + a) = mul-le-mul_left c R-low in
      let two : (2 * a) * (t * S) ≤ (2 * a) * (c * R + H) = mul-le-mul_left (2 * a) t-low in
      let e : a * S ≡ a * (H + H) = rw twice in
      let l : 2 * (a * t) < 2 * (c * M) + a + 1 = lt_of_mul-lt-mul_right S {m = 2 * (a * t)} {n = 2 * (c * M) + a + 1} (omega arith) in
      omega arith

  pub not_below : 2 * (c * M) ≤ 2 * (a * t) + a
  not_below =
      let one : c * (2 * (M * S) + a + 1) ≤ c * (R * (2 * a) + 2 * a) = mul-le-mul_left c (omega arith) in
      let two : (2 * a) * (c * R + H + 1) ≤ (2 * a) * (t * S + S) = mul-le-mul_left (2 * a) (omega arith) in
      let e : a * S ≡ a * (H + H) = rw twice in
      let l : 2 * (c * M) < 2 * (a * t) + a + 1 = lt_of_mul-lt-mul_right S {m = 2 * (c * M)} {n = 2 * (a * t) + a + 1} (omega arith) in
      omega arith

-- from alpha on the cut quotient is M or more
module _ (M S H c a R t : ℕ) (twice : S ≡ H + H) (from : a ≤ c) (fits : a ≤ S) (R-high : 2 * (M * S) + a < R * (2 * a) + 2 * a) (t-high : c * R + H < t * S + S) where
  pub at_least_fact : M ≤ t
  at_least_fact =
      let l : a * R ≤ c * R = mul-le-mul_right R from in
      let k : M < t + 1 = lt_of_mul-lt-mul_right S {m = M} {n = t + 1} (omega arith) in omega arith
