-- `mirror_crop`: the number of what `crop` gives. Assumes nothing.
use mathlib.Core.Path.{◌∙◌, ap}
use Rattle.crop_box.specs.Crop.{number_of}
use Rattle.mirror_crop.proofs.crops.mirror_crop.Goals as goal

pub returns : goal.returns
returns c = record { answer = c.number.ensures.answer ∙ ap number_of c.crop.ensures.answer }
