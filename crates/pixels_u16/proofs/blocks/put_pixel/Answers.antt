-- `blocks::put_pixel`: the goals that the check leaves; the argument stands in Invariants.antt. Assumes nothing.
use mathlib.Core.Path.{◌≡◌, refl}
use Prim.Native.Nat.{◌+◌}
use native.Mathlib.Omega.{arith}
use lib.ListN.{length-set}
use Rattle.pixels_u16.specs.Places.{sample_from}
use Rattle.pixels_u16.proofs.PutLaws.{put_none, put_more}
use Rattle.pixels_u16.proofs.blocks.put_pixel.Goals as goal

pub loop-k-init : goal.loop-k-init
loop-k-init c = (refl, put_none)

pub loop-k-preserved : goal.loop-k-preserved
loop-k-preserved c =
    let a = c.args in (
      simp length-set c.loop-k.invariant.0,
      put_more c.loop-k.k (a.o + c.loop-k.k) (sample_from a.samples.now a.from c.loop-k.k) c.loop-k.invariant.1 (omega (arith, c.loop-k.invariant.0, c.requires.1, c.loop-k-test.true)) refl refl,
    )

pub shape_of-out : goal.shape_of-out
shape_of-out c = c.loop-k.invariant.0

pub returns : goal.returns
returns c =
    let all : c.loop-k.k ≡ c.args.components = omega arith in
    rw (← all) c.loop-k.invariant.1
