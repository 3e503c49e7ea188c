-- `common::mul_div_65535` meets its contract: the expression is the nearest whole number to x / 65535 (`over_65535`), and no sum passes 32 bits. Assumes nothing.
use Prim.Native.Nat.{ℕ, ◌*◌, ◌<◌, ◌≤◌}
use native.Mathlib.Nat.{mul-le-mul}
use native.Mathlib.Omega.{arith}
use Rattle.colours_u16.proofs.Colours.{over_65535}
use Rattle.colours_u16.proofs.common.mul_div_65535.Goals as goal

product : (a b : ℕ) → a < 65536 → b < 65536 → a * b ≤ 65535 * 65535
product a b h k = let l : a ≤ 65535 = omega arith in let m : b ≤ 65535 = omega arith in mul-le-mul l m

pub overflow_mul-t : goal.overflow_mul-t
overflow_mul-t c = omega (arith, product c.args.a c.args.b (omega arith) (omega arith))

pub overflow_add-t : goal.overflow_add-t
overflow_add-t c = omega (arith, product c.args.a c.args.b (omega arith) (omega arith))

pub overflow_add-result : goal.overflow_add-result
overflow_add-result c = omega (arith, product c.args.a c.args.b (omega arith) (omega arith))

pub overflow_cast-result : goal.overflow_cast-result
overflow_cast-result c = omega (arith, product c.args.a c.args.b (omega arith) (omega arith))

pub returns : goal.returns
returns c = record { answer = over_65535 (c.args.a * c.args.b) (product c.args.a c.args.b (omega arith) (omega arith)) }
