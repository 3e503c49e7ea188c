-- `blocks::put_pixels`: the goals that the check leaves; the argument stands in Invariants.antt. Assumes nothing.
use mathlib.Core.Path.{◌≡◌, refl, ◌∙◌}
use Prim.Native.Nat.{◌*◌, ◌+◌, ◌≤◌}
use native.Mathlib.Nat.{zero-mul, mul-le-mul_right}
use native.Mathlib.Omega.{arith}
use lib.ListN.{length}
use Rattle.lists.proofs.TabLaws.{row_end}
use Rattle.pixels_u16.proofs.PutLaws.{put_none}
use Rattle.pixels_u16.proofs.BlockLaws.{row_room, row_put}
use Rattle.pixels_u16.proofs.blocks.put_pixels.Goals as goal

pub loop-y-init : goal.loop-y-init
loop-y-init c = (refl, rw zero-mul put_none)

pub overflow_mul-y : goal.overflow_mul-y
overflow_mul-y c = omega (arith, c.requires.samples_len, row_end c.loop-y.y c.args.n c.args.components c.loop-y-test.true)

pub overflow_mul-y-in-loop-y : goal.overflow_mul-y-in-loop-y
overflow_mul-y-in-loop-y c =
    let few : c.loop-y.y ≤ 16 = omega (arith, c.requires.le_components.3) in
    omega (arith, c.requires.le_components, mul-le-mul_right c.args.wide few)

pub overflow_add-o0 : goal.overflow_add-o0
overflow_add-o0 c =
    let few : c.loop-y.y ≤ 16 = omega (arith, c.requires.le_components.3) in
    omega (arith, c.requires.le_components, mul-le-mul_right c.args.wide few)

pub put_pixel-requires : goal.put_pixel-requires
put_pixel-requires c =
    let a = c.args in
    let h = c.loop-y-test.true in (
      omega (arith, c.requires.samples_len, row_end c.loop-y.y a.n a.components h),
      rw c.loop-y.invariant.0 (row_room a.samples.now a.o0 a.components a.wide c.loop-y.y c.requires.le_components.0 a.n (a.o0 + c.loop-y.y * a.wide) (length a.out.now) refl h c.requires.by_index),
    )

pub loop-y-preserved : goal.loop-y-preserved
loop-y-preserved c =
    let a = c.args in
    let r = c.put_pixel in (
      r.auto.out ∙ c.loop-y.invariant.0,
      row_put a.samples.now a.o0 a.components a.wide c.loop-y.y c.requires.le_components.0 (a.o0 + c.loop-y.y * a.wide) (c.loop-y.y * a.components) refl refl c.loop-y.invariant.1 r.ensures,
    )

pub shape_of-out : goal.shape_of-out
shape_of-out c = c.loop-y.invariant.0

pub returns : goal.returns
returns c =
    let all : c.loop-y.y ≡ c.args.n = omega arith in
    rw (← all) c.loop-y.invariant.1
