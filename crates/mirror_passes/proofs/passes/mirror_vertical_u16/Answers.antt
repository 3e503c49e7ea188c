-- `mirror_vertical_u16`: the number of the pass's answer, and its output. Assumes nothing.
use mathlib.Core.Path.{◌∙◌, ap}
use Rattle.vertical.specs.Passed.{number_of}
use Rattle.mirror_passes.proofs.passes.mirror_vertical_u16.Goals as goal

pub returns : goal.returns
returns c = record { answer = c.number.ensures.answer ∙ ap number_of c.vert_convolution_u16.ensures.answer; written = c.vert_convolution_u16.ensures.written }
