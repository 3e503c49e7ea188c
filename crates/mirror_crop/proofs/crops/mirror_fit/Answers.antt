-- `mirror_fit`: a flag above 1 takes the first arm; else the centring is named, and answer and box are the library's. Assumes nothing.
use mathlib.Core.Path.{◌∙◌, ap, refl}
use borrow.Author.Tests.{lt-ltb, le-ltb}
use Rattle.crop_box.specs.declared.CropBox.{CropBox}
use Rattle.crop_fit.specs.Fit.{number_of, box_of}
use Rattle.codes.specs.Codes.{fit_number, fit_box}
use Rattle.mirror_crop.proofs.crops.mirror_fit.Goals as goal

pub returns-then-centred-gt1 : goal.returns-then-centred-gt1
unfolding fit_number fit_box
returns-then-centred-gt1 c = simp (lt-ltb _ _ c.if-centred-gt1.true) (record { answer = refl; written = refl; written2 = refl; written3 = refl; written4 = refl })

pub returns : goal.returns
unfolding fit_number fit_box
returns c =
    let fit = rw c.centring_named.ensures.answer at c.fit_src_into_dst_size-answer.ensures.answer in
    let b = c.fitted_box-b.ensures.answer ∙ ap box_of fit in
    rw (le-ltb _ _ c.if-centred-gt1.false) (record { answer = c.number.ensures.answer ∙ ap number_of fit; written = ap (λ (x : CropBox). x.left) b; written2 = ap (λ (x : CropBox). x.top) b; written3 = ap (λ (x : CropBox). x.width) b; written4 = ap (λ (x : CropBox). x.height) b })
