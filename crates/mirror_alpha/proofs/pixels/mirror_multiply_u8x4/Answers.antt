-- `mirror_multiply_u8x4`: the number of the library's answer, and its list. Assumes nothing.
use mathlib.Core.Path.{◌∙◌, ap}
use Rattle.pixel_lists.specs.Lists.{number_of}
use Rattle.mirror_alpha.proofs.pixels.mirror_multiply_u8x4.Goals as goal

pub returns : goal.returns
returns c = record { answer = c.number.ensures.answer ∙ ap number_of c.multiply_alpha.ensures.answer; written = c.multiply_alpha.ensures.written }
