-- One colour and one alpha: products of components are small, the results are components, and no tie can occur. Over the largest component where it can be, cited by
-- `alpha_u16` too; at 8 bits for the functions on colours and pixels here. Assumes nothing.
use mathlib.Core.Path.{◌≡◌, subst}
use Prim.Native.Nat.{ℕ, zero, suc, ◌+◌, ◌-◌, ◌*◌, ◌^◌, ◌≤◌, ◌<◌}
use native.Mathlib.Nat.{mul-le-mul, div-lt_iff_lt-mul}
use native.Mathlib.Omega.{arith}
use borrow.Author.Tests.{ne_eqb}
use Rattle.integers.specs.Nearest.{Nearest, nearest}
use Rattle.integers.proofs.Width.{nearest_is, nearest_over_width}
use Rattle.colours.specs.Alpha.{multiplied_over, reciprocal_over, multiplied, reciprocal, divided}

-- a product of components is a component again
pub multiplied_small : (M c a : ℕ) → 0 < M → c ≤ M → a ≤ M → multiplied_over M c a ≤ M
multiplied_small M c a some h k =
    let p : c * a ≤ M * M = mul-le-mul h k in
    let l : nearest (c * a) M < M + 1 = (div-lt_iff_lt-mul {k = 2 * M} (omega arith)).1 (omega arith) in omega arith

-- components of n bits: nearer than a half, so no tie can occur, and it is the only nearest whole number
pub multiplied_over_fact : (n c a : ℕ) → 1 ≤ n → c ≤ 2 ^ n - 1 → a ≤ 2 ^ n - 1 → Nearest (c * a) (2 ^ n - 1) (multiplied_over (2 ^ n - 1) c a)
multiplied_over_fact n c a some h k =
    let near = nearest_over_width n (c * a) some (mul-le-mul h k) in
    subst (λ (r : ℕ). Nearest (c * a) (2 ^ n - 1) r) (nearest_is (c * a) (2 ^ n - 1) _ near) near

pub reciprocal_is : (M S a : ℕ) → 0 < a → reciprocal_over M S a ≡ nearest (M * S) a
reciprocal_is M S a h = rw (ne_eqb a 0 (λ e. omega arith))

-- ---- 8 bits

pub bytes_product : (c a : ℕ) → c < 256 → a < 256 → c * a ≤ 65025
bytes_product c a h k = let l : c ≤ 255 = omega arith in let m : a ≤ 255 = omega arith in mul-le-mul l m

pub multiplied_byte : (c a : ℕ) → c < 256 → a < 256 → multiplied c a < 256
multiplied_byte c a h k = let l = multiplied_small 255 c a (omega arith) (omega arith) (omega arith) in omega arith

pub divided_byte : (c a : ℕ) → c < 256 → a < 256 → divided c a < 256
divided_byte c a h k = omega arith

pub reciprocal_small : (a : ℕ) → reciprocal a ≤ 65280
reciprocal_small zero = omega arith
reciprocal_small (suc b) =
    let is = reciprocal_is 255 256 (suc b) (omega arith) in
    let l : nearest 65280 (suc b) < 65281 = (div-lt_iff_lt-mul {k = 2 * suc b} (omega arith)).1 (omega arith) in omega arith

pub multiplied_nearest : (c a : ℕ) → c < 256 → a < 256 → Nearest (c * a) 255 (multiplied c a)
multiplied_nearest c a h k = multiplied_over_fact 8 c a (omega arith) (omega arith) (omega arith)
