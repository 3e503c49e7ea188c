-- `loops::change_within`: the goals that the check leaves; the argument stands in Invariants.antt. Assumes nothing.
use mathlib.Core.Path.{◌∙◌, ap, refl}
use native.Mathlib.Omega.{arith}
use lib.ListN.{length}
use Rattle.lists.proofs.TabLaws.{written_none}
use Rattle.pixel_lists.proofs.PixelLaws.{pixels_all}
use Rattle.alpha_u16.specs.Pixels.{on_colours}
use Rattle.alpha_u16.proofs.PixelLaws.{pixel_into, still_pixel}
use Rattle.alpha_u16.proofs.loops.change_within.Goals as goal

pub loop-q-init : goal.loop-q-init
loop-q-init g c = λ op h. written_none

pub loop-q-preserved : goal.loop-q-preserved
loop-q-preserved g c =
    let old = c.args.pixels.now in
    let x = c.change-x.result in
    λ op h.
    let w = c.loop-q.invariant op h in
    let e = h c.load4.result x c.change-x.ensures ∙ ap (on_colours op) (c.load4.ensures.answer ∙ still_pixel c.loop-q.q w) in
    rw c.store4.ensures.written (pixel_into op old c.loop-q.q x e w (omega arith))

pub returns : goal.returns
returns g c = record { written = λ op h. pixels_all c.loop-q.q (length c.args.pixels.now) (c.loop-q.invariant op h) (omega arith) (omega arith) refl }
