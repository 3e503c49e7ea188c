-- `mirror_vertical_u8`: the number of the pass's answer, and its output. Assumes nothing.
use mathlib.Core.Path.{◌∙◌, ap}
use Rattle.vertical.specs.Passed.{number_of}
use Rattle.mirror_passes_u8.proofs.passes.mirror_vertical_u8.Goals as goal

pub returns : goal.returns
returns c = record { answer = c.number.ensures.answer ∙ ap number_of c.vert_convolution_u8.ensures.answer; written = c.vert_convolution_u8.ensures.written }
