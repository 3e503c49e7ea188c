-- A signed number of h bits and a sign: minus one less a negative one is its size less one, and any other is its size. Cited by the functions that write
-- signed numbers in decimal, in `sheet` and in `telling`. Assumes nothing.
use mathlib.Core.Path.{◌≡◌, refl}
use mathlib.Core.Bool.{true, false}
use Prim.Native.Nat.{ℕ, suc, ◌+◌, ◌-◌, ◌<◌, ◌≤◌, ◌^◌}
use native.Mathlib.Numerals.{add-one}
use native.Mathlib.Omega.{arith}
use lib.IntN.{ℤ, pos, negsuc, nat_abs, ◌-ℤ◌}
use lib.Signed.{lt_z, mag}
use borrow.Author.Tests.{le-ltb, ltb-true}
use Rattle.lists.proofs.BoolLaws.{never}

-- a negative number v, by n = -1 - v
pub record Below (h : ℕ) (v : ℤ) : Type 0 where
  pub n : ℕ
  pub is : negsuc 0 -ℤ v ≡ pos n
  pub small : n < 2 ^ h
  pub size : n + 1 ≡ nat_abs v

pub below : (h : ℕ) (v : ℤ) → mag v < 2 ^ h → lt_z v (pos 0) ≡ true → Below h v
below h (pos n) f t = absurd (omega (arith, ltb-true n 0 t))
below h (negsuc n) f t =
    let l : 1 ≤ suc n = omega arith in
    let e : suc n - 1 ≡ n = omega arith in
    record { n = n; is = rw (le-ltb (suc n) 1 l, e); small = f; size = add-one n }

-- a number that is not negative
pub record Above (h : ℕ) (v : ℤ) : Type 0 where
  pub n : ℕ
  pub is : v ≡ pos n
  pub small : n < 2 ^ h

pub above : (h : ℕ) (v : ℤ) → mag v < 2 ^ h → lt_z v (pos 0) ≡ false → Above h v
above h (pos n) f t = record { n = n; is = refl; small = f }
above h (negsuc n) f t = never t
