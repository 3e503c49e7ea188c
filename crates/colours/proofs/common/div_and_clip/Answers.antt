-- `common::div_and_clip` meets its contract: a byte times 32 bits fits 64 bits; the two ways are the two sides of `min`. Assumes nothing.
use Prim.Native.Nat.{◌≤◌}
use native.Mathlib.Nat.{mul-le-mul}
use native.Mathlib.Omega.{arith}
use borrow.Author.Rules.{rules}
use Rattle.colours.proofs.common.div_and_clip.Goals as goal

pub overflow_mul-t : goal.overflow_mul-t
overflow_mul-t c = let l : c.args.v ≤ 255 = omega arith in let m : c.args.recip ≤ 4294967295 = omega arith in omega (arith, mul-le-mul l m)

pub overflow_add-t : goal.overflow_add-t
overflow_add-t c = let l : c.args.v ≤ 255 = omega arith in let m : c.args.recip ≤ 4294967295 = omega arith in omega (arith, mul-le-mul l m)
