-- Of a negative weight -(n + 1), -1 less it is n. Assumes nothing.
use mathlib.Core.Path.{◌≡◌, ◌∙◌, ap}
use native.Mathlib.Omega.{arith}
use lib.IntN.{ℤ, pos, negsuc, ◌-ℤ◌}
use mir.Facts.{to_z-of_z, to_z_pos}
use mir.Syntax.{w16}
use mir.Val.{to_z, of_z}
use Rattle.lists.proofs.SizeLaws.{Below, below, Above, above}
use Rattle.vertical_u8.proofs.judge.size.Goals as goal

pub overflow_sub-result : goal.overflow_sub-result
overflow_sub-result c =
    let low : Below 15 c.args.w = below 15 c.args.w c.ranges.w.sfits (rw (to_z-of_z c.ranges.w) at c.if-w-lt0.true) in
    rw (to_z-of_z c.ranges.w, low.is) (record { sfits = low.small })

pub overflow_cast-result : goal.overflow_cast-result
overflow_cast-result c =
    let low : Below 15 c.args.w = below 15 c.args.w c.ranges.w.sfits (rw (to_z-of_z c.ranges.w) at c.if-w-lt0.true) in
    let back : to_z w16 (of_z w16 (negsuc 0 -ℤ c.args.w)) ≡ pos low.n = ap (λ (z : ℤ). to_z w16 (of_z w16 z)) low.is ∙ to_z_pos w16 {n = low.n} low.small in
    rw (to_z-of_z c.ranges.w, back) (tt, record { fits = omega (arith, low.small) })

pub overflow_add-result : goal.overflow_add-result
overflow_add-result c =
    let low : Below 15 c.args.w = below 15 c.args.w c.ranges.w.sfits (rw (to_z-of_z c.ranges.w) at c.if-w-lt0.true) in
    let back : to_z w16 (of_z w16 (negsuc 0 -ℤ c.args.w)) ≡ pos low.n = ap (λ (z : ℤ). to_z w16 (of_z w16 z)) low.is ∙ to_z_pos w16 {n = low.n} low.small in
    rw (to_z-of_z c.ranges.w, back) (record { fits = omega (arith, low.small) })

pub returns-then-w-lt0 : goal.returns-then-w-lt0
returns-then-w-lt0 c =
    let low : Below 15 c.args.w = below 15 c.args.w c.ranges.w.sfits (rw (to_z-of_z c.ranges.w) at c.if-w-lt0.true) in
    let back : to_z w16 (of_z w16 (negsuc 0 -ℤ c.args.w)) ≡ pos low.n = ap (λ (z : ℤ). to_z w16 (of_z w16 z)) low.is ∙ to_z_pos w16 {n = low.n} low.small in
    rw (to_z-of_z c.ranges.w, back) low.size

pub overflow_cast-result-2 : goal.overflow_cast-result-2
overflow_cast-result-2 c =
    let high : Above 15 c.args.w = above 15 c.args.w c.ranges.w.sfits (rw (to_z-of_z c.ranges.w) at c.if-w-lt0.false) in
    rw (to_z-of_z c.ranges.w, high.is) (tt, record { fits = omega (arith, high.small) })

pub returns : goal.returns
returns c = rw (to_z-of_z c.ranges.w)
