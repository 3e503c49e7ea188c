-- The flat premise by division: 131070 times a size n is below q exactly when n is at most (q - 1) / 131070. Cited by `fails_flat`. Assumes nothing.
use mathlib.Core.Path.{◌≡◌, refl, ◌∙◌}
use mathlib.Core.Bool.{Bool, true, false, not}
use Prim.Native.Nat.{ℕ, ◌+◌, ◌-◌, ◌*◌, ◌/◌, ◌%◌, ◌^◌, ◌≤◌}
use native.Mathlib.Nat.{pow-le-pow_right, mod-eq_of_lt, one-mul}
use native.Mathlib.Omega.{arith}
use lib.Dec.{ltb, leb}
use borrow.Author.Tests.{ltb-true, ltb-false, lt-ltb, le-ltb, le-leb, lt-leb}

-- 1 << p, which does not leave 64 bits
pub power_is : (p : ℕ) → p ≤ 45 → 1 * 2 ^ p % 18446744073709551616 ≡ 2 ^ p
power_is p l =
    let h : 2 ^ p ≤ 2 ^ 45 = pow-le-pow_right {n = 2} (omega arith) l in
    let e = one-mul (2 ^ p) in
    mod-eq_of_lt (omega arith) ∙ e

module _ (q n : ℕ) (some : 1 ≤ q) where
  -- a size n
  pub far_above : ltb ((q - 1) / 131070) n ≡ not (ltb (2 * 65535 * n) q)
  far_above = by_test (ltb (2 * 65535 * n) q) refl
    where
      by_test : (b : Bool) → ltb (2 * 65535 * n) q ≡ b → ltb ((q - 1) / 131070) n ≡ not b
      by_test true h = let l = ltb-true (2 * 65535 * n) q h in le-ltb ((q - 1) / 131070) n (omega arith)
      by_test false h = let l = ltb-false (2 * 65535 * n) q h in lt-ltb ((q - 1) / 131070) n (omega arith)

  -- a size n + 1
  pub far_below : leb ((q - 1) / 131070) n ≡ not (ltb (2 * 65535 * (n + 1)) q)
  far_below = by_test (ltb (2 * 65535 * (n + 1)) q) refl
    where
      by_test : (b : Bool) → ltb (2 * 65535 * (n + 1)) q ≡ b → leb ((q - 1) / 131070) n ≡ not b
      by_test true h = let l = ltb-true (2 * 65535 * (n + 1)) q h in lt-leb ((q - 1) / 131070) n (omega arith)
      by_test false h = let l = ltb-false (2 * 65535 * (n + 1)) q h in le-leb ((q - 1) / 131070) n (omega arith)
