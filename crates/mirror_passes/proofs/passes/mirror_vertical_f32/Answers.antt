-- `mirror_vertical_f32`: the number of the pass's answer and the count beside it, and its output. Assumes nothing.
use mathlib.Core.Path.{◌∙◌, ap}
use Rattle.vertical.specs.PassedF32.{number_of, infinite_in}
use Rattle.mirror_passes.proofs.passes.mirror_vertical_f32.Goals as goal

pub returns : goal.returns
returns c = record { answer = c.number.ensures.answer ∙ ap number_of c.vert_convolution_f32-answer.ensures.answer; written = c.vert_convolution_f32-answer.ensures.written; written2 = c.infinite.ensures.answer ∙ ap infinite_in c.vert_convolution_f32-answer.ensures.answer }
