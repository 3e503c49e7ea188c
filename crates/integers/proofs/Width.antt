-- x / (2^n - 1) to the nearest whole number without a division: with t = x + 2^(n-1) it is (t + t / 2^n) / 2^n. Cited at n = 8, later at 16.
-- With B = 2^n, W = B - 1 and q = t / B the result is q or q + 1, as t % B + q is below B or not, and 2 x - 2 W q is 2 (t % B + q) - B. Assumes nothing.
use mathlib.Core.Path.{◌≡◌, sym, ap}
use Prim.Native.Nat.{ℕ, zero, suc, ◌+◌, ◌-◌, ◌*◌, ◌/◌, ◌^◌, ◌≤◌, ◌<◌}
use native.Mathlib.Nat.{add-mul, mul-add, mul_comm, mul_left_comm, mul-one, one-mul, div-mul-le_self, lt-div-mul-add, div-eq_of_lt-le, div-lt_iff_lt-mul, lt_of_mul-lt-mul_right}
use native.Mathlib.Omega.{arith}
use lib.Pow.{pow_pos}
use Rattle.integers.specs.Nearest.{nearest, Nearest}
use Rattle.integers.proofs.Floors.{halves}

-- nearer than a half: it is the value with a half going up
pub nearest_is : (x d r : ℕ) → Nearest x d r → r ≡ nearest x d
nearest_is x d r h =
    let e : r * (2 * d) ≡ 2 * (d * r) = simp (mul_comm, mul_left_comm) in
    sym (div-eq_of_lt-le (2 * d) (omega (arith, h)) (rw (add-mul r 1 (2 * d)) (omega (arith, h))))

-- t is not 0: its quotient or its rest is not
rest : (q B t : ℕ) → 0 < t → 1 ≤ t - q * B + q
rest zero B t h = omega arith
rest (suc q) B t h = omega arith

-- the quotient q of t = x + H by B, and the result r
module _ (H B W x q r : ℕ) (twice : B ≡ H + H) (one : B ≡ W + 1) (some : 0 < H) (small : q ≤ W)
    (q-low : q * B ≤ x + H) (q-high : x + H < q * B + B) (r-low : r * B ≤ x + H + q) (r-high : x + H + q < r * B + B) where
  near : (e : ℕ) → r ≡ q + e → e ≤ 1 → Nearest x W r
  near zero s l =
      let rw-r : r * B ≡ W * r + r = rw (one, mul-add, mul-one, mul_comm r W) in
      let rq : r * B ≡ q * B = ap (λ (i : ℕ). i * B) (omega arith) in
      let t = rest q B (x + H) (omega arith) in omega arith
  near (suc zero) s l =
      let rw-r : r * B ≡ W * r + r = rw (one, mul-add, mul-one, mul_comm r W) in
      let rq : r * B ≡ q * B + 1 * B = rw s (add-mul q 1 B) in omega arith
  near (suc (suc e)) s l = absurd (omega arith)

  result : Nearest x W r
  result =
      let up : (r + 1) * B ≡ r * B + 1 * B = add-mul r 1 B in
      let on : (q + 2) * B ≡ q * B + 2 * B = add-mul q 2 B in
      let a : q < r + 1 = lt_of_mul-lt-mul_right B {m = q} {n = r + 1} (omega arith) in
      let b : r < q + 2 = lt_of_mul-lt-mul_right B {m = r} {n = q + 2} (omega arith) in
      near (r - q) (omega arith) (omega arith)

square_is : (B W : ℕ) → B ≡ W + 1 → B * B ≡ W * W + W + B
square_is B W e = rw e (simp (add-mul, mul-add, mul-one, one-mul))

pub nearest_over_width : (n x : ℕ) → 1 ≤ n → x ≤ (2 ^ n - 1) * (2 ^ n - 1) → let t = x + 2 ^ (n - 1) in Nearest x (2 ^ n - 1) ((t + t / 2 ^ n) / 2 ^ n)
nearest_over_width n x h l =
    let B = 2 ^ n in
    let H = 2 ^ (n - 1) in
    let W = B - 1 in
    let t = x + H in
    let twice : B ≡ H + H = halves n h in
    let some : 0 < H = pow_pos (n - 1) in
    let one : B ≡ W + 1 = omega arith in
    let square : B * B ≡ W * W + W + B = square_is B W one in
    let q-small : t / B < B = (div-lt_iff_lt-mul (pow_pos n)).1 (omega arith) in
    result H B W x (t / B) ((t + t / B) / B) twice one some (omega arith)
    (div-mul-le_self t B) (lt-div-mul-add {a = t} (pow_pos n)) (div-mul-le_self (t + t / B) B) (lt-div-mul-add {a = t + t / B} (pow_pos n))

-- the 8-bit rounding, as the code writes it
pub over_255 : (x : ℕ) → x ≤ 65025 → (x + 128 + (x + 128) / 256) / 256 ≡ nearest x 255
over_255 x h = nearest_is x 255 _ (nearest_over_width 8 x (omega arith) h)
