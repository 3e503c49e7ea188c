-- `numbers::times` is safe: two numbers of 32 bits have a product of 64. Assumes nothing.
use Prim.Native.Nat.{◌≤◌}
use native.Mathlib.Nat.{mul-le-mul}
use native.Mathlib.Omega.{arith}
use Rattle.frame_files.proofs.numbers.times.Goals as goal

pub overflow_mul-result : goal.overflow_mul-result
overflow_mul-result c =
    let a : c.args.rows ≤ 4294967295 = omega arith in
    let b : c.args.each ≤ 4294967295 = omega arith in
    omega (arith, mul-le-mul a b)
