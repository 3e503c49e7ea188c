-- `mirror_divide_u16x4`: the number of the library's answer, and its list. Assumes nothing.
use mathlib.Core.Path.{◌∙◌, ap}
use Rattle.pixel_lists.specs.Lists.{number_of}
use Rattle.mirror_alpha_u16.proofs.pixels.mirror_divide_u16x4.Goals as goal

pub returns : goal.returns
returns c = record { answer = c.number.ensures.answer ∙ ap number_of c.divide_alpha.ensures.answer; written = c.divide_alpha.ensures.written }
