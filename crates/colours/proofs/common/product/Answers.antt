-- `common::product` meets its contract: the expression is the nearest whole number to x / 255 (`over_255`) since the product of two bytes is at most
-- 65025. Assumes nothing.
use Prim.Native.Nat.{◌*◌}
use native.Mathlib.Omega.{arith}
use Rattle.integers.proofs.Width.{over_255}
use Rattle.colours.proofs.Colours.{bytes_product, multiplied_byte}
use Rattle.colours.proofs.common.product.Goals as goal

pub overflow_mul-t : goal.overflow_mul-t
overflow_mul-t c = omega (arith, bytes_product c.args.colour c.args.alpha c.requires.0 c.requires.1)

pub overflow_add-t : goal.overflow_add-t
overflow_add-t c = omega (arith, bytes_product c.args.colour c.args.alpha c.requires.0 c.requires.1)

pub overflow_add-result : goal.overflow_add-result
overflow_add-result c = omega (arith, bytes_product c.args.colour c.args.alpha c.requires.0 c.requires.1)

pub returns : goal.returns
returns c =
    let h = bytes_product c.args.colour c.args.alpha c.requires.0 c.requires.1 in
    let e = over_255 (c.args.colour * c.args.alpha) h in
    record { answer = e; small = omega (arith, e, multiplied_byte c.args.colour c.args.alpha c.requires.0 c.requires.1) }
