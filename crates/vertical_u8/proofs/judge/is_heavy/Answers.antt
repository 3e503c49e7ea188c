-- The total is at most 2^28 and the half at most 2^20, so neither the product nor the sum wraps. Assumes nothing.
use mathlib.Core.Path.{◌≡◌}
use Prim.Native.Nat.{ℕ, ◌^◌, ◌-◌, ◌≤◌}
use native.Mathlib.Nat.{pow-le-pow_right}
use native.Mathlib.Omega.{arith}
use Rattle.vertical_u8.proofs.judge.is_heavy.Goals as goal

small : (p : ℕ) {h : ℕ} → p ≤ 21 → h ≡ 2 ^ (p - 1) → h ≤ 2 ^ 20
small p l e = let k : p - 1 ≤ 20 = omega arith in rw e (pow-le-pow_right {n = 2} (omega arith) k)

pub overflow_mul-result : goal.overflow_mul-result
overflow_mul-result c = record { fits = omega (arith, c.sizes_total.ensures.1) }

pub overflow_add-result : goal.overflow_add-result
overflow_add-result c =
    record { fits = omega (arith, c.sizes_total.ensures.1, small c.args.p c.requires.le_p.1 c.half.ensures) }

pub returns : goal.returns
returns c = rw (c.sizes_total.ensures.0, c.half.ensures)
