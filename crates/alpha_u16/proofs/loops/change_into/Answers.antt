-- `loops::change_into`: the goals that the check leaves; the argument stands in Invariants.antt. Assumes nothing.
use mathlib.Core.Path.{◌∙◌, ap}
use native.Mathlib.Omega.{arith}
use lib.ListN.{length}
use Rattle.lists.proofs.TabLaws.{written_none}
use Rattle.pixel_lists.proofs.PixelLaws.{pixels_all}
use Rattle.alpha_u16.specs.Pixels.{on_colours}
use Rattle.alpha_u16.proofs.PixelLaws.{pixel_into}
use Rattle.alpha_u16.proofs.loops.change_into.Goals as goal

pub loop-q-init : goal.loop-q-init
loop-q-init g c = λ op h. written_none

pub loop-q-preserved : goal.loop-q-preserved
loop-q-preserved g c =
    let src = c.args.src.now in
    let x = c.change-x.result in
    λ op h.
    let e = h c.load4.result x c.change-x.ensures ∙ ap (on_colours op) c.load4.ensures.answer in
    rw c.store4.ensures.written (pixel_into op src c.loop-q.q x e (c.loop-q.invariant op h) (omega arith))

pub returns : goal.returns
returns g c = record { written = λ op h. pixels_all c.loop-q.q (length c.args.src.now) (c.loop-q.invariant op h) (omega arith) (omega arith) c.requires.src_len }
