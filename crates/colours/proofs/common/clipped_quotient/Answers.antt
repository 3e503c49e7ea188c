-- `common::clipped_quotient` meets its contract: the product is at most 255 x 65280, so it fits; the two ways are the two sides of `min`.
-- Assumes nothing.
use Prim.Native.Nat.{◌≤◌}
use native.Mathlib.Nat.{mul-le-mul}
use native.Mathlib.Omega.{arith}
use borrow.Author.Rules.{rules}
use Rattle.colours.proofs.common.clipped_quotient.Goals as goal

pub overflow_mul-t : goal.overflow_mul-t
overflow_mul-t c = let l : c.args.colour ≤ 255 = omega arith in omega (arith, mul-le-mul l c.requires.1)

pub overflow_add-t : goal.overflow_add-t
overflow_add-t c = let l : c.args.colour ≤ 255 = omega arith in omega (arith, mul-le-mul l c.requires.1)
