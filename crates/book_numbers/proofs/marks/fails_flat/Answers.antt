-- `fails_flat` meets its contract: the size of the excess against (2^p - 1) / 131070, by the excess's sign (`far_above`, `far_below`). Assumes nothing.
use mathlib.Core.Path.{◌≡◌, ap, ◌∙◌}
use mathlib.Core.Bool.{not}
use Prim.Native.Nat.{ℕ, ◌*◌, ◌^◌}
use native.Mathlib.Omega.{arith}
use lib.Dec.{ltb}
use lib.Pow.{pow_pos}
use lib.IntN.{ℤ, pos, negsuc, nat_abs, ◌-ℤ◌}
use mir.Facts.{to_z-of_z, to_z_pos}
use mir.Syntax.{w64}
use mir.Val.{to_z, of_z}
use Rattle.lists.proofs.SizeLaws.{Below, below, Above, above}
use Rattle.book_numbers.proofs.FlatLaws.{power_is, far_above, far_below}
use Rattle.book_numbers.proofs.marks.fails_flat.Goals as goal

pub overflow_sub-most : goal.overflow_sub-most
overflow_sub-most c = rw (power_is c.args.p c.requires) (pow_pos c.args.p)

pub overflow_sub-result : goal.overflow_sub-result
overflow_sub-result c =
    let low : Below 63 c.args.excess = below 63 c.args.excess c.ranges.excess.sfits (rw (to_z-of_z c.ranges.excess) at c.if-excess-lt0.true) in
    rw (to_z-of_z c.ranges.excess, low.is) (record { sfits = low.small })

pub overflow_cast-result : goal.overflow_cast-result
overflow_cast-result c =
    let low : Below 63 c.args.excess = below 63 c.args.excess c.ranges.excess.sfits (rw (to_z-of_z c.ranges.excess) at c.if-excess-lt0.true) in
    let back : to_z w64 (of_z w64 (negsuc 0 -ℤ c.args.excess)) ≡ pos low.n = ap (λ (z : ℤ). to_z w64 (of_z w64 z)) low.is ∙ to_z_pos w64 {n = low.n} low.small in
    rw (to_z-of_z c.ranges.excess, back) (tt, record { fits = omega (arith, low.small) })

pub returns-then-excess-lt0 : goal.returns-then-excess-lt0
returns-then-excess-lt0 c =
    let low : Below 63 c.args.excess = below 63 c.args.excess c.ranges.excess.sfits (rw (to_z-of_z c.ranges.excess) at c.if-excess-lt0.true) in
    let back : to_z w64 (of_z w64 (negsuc 0 -ℤ c.args.excess)) ≡ pos low.n = ap (λ (z : ℤ). to_z w64 (of_z w64 z)) low.is ∙ to_z_pos w64 {n = low.n} low.small in
    let p = c.args.p in
    record {
      answer = rw (to_z-of_z c.ranges.excess, back, power_is p c.requires)
          (far_below (2 ^ p) low.n (pow_pos p) ∙ ap (λ (n : ℕ). not (ltb (2 * 65535 * n) (2 ^ p))) low.size);
    }

pub overflow_cast-result-2 : goal.overflow_cast-result-2
overflow_cast-result-2 c =
    let high : Above 63 c.args.excess = above 63 c.args.excess c.ranges.excess.sfits (rw (to_z-of_z c.ranges.excess) at c.if-excess-lt0.false) in
    rw (to_z-of_z c.ranges.excess, high.is) (tt, record { fits = omega (arith, high.small) })

pub returns : goal.returns
returns c =
    let p = c.args.p in
    record { answer = rw (to_z-of_z c.ranges.excess, power_is p c.requires) (far_above (2 ^ p) (nat_abs c.args.excess) (pow_pos p)) }
