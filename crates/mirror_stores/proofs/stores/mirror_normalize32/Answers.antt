-- `mirror_normalize32`: number and precision of the library's answer, and its lists. Assumes nothing.
use mathlib.Core.Path.{◌∙◌, ap}
use Rattle.normalizer.specs.Answer.{number_of, precision_in}
use Rattle.mirror_stores.proofs.stores.mirror_normalize32.Goals as goal

pub returns : goal.returns
returns c = record { answer = c.number.ensures.answer ∙ ap number_of c.normalize32-answer.ensures.answer; written = c.normalize32-answer.ensures.written; written2 = c.normalize32-answer.ensures.written2; written3 = c.unwrap_or.ensures ∙ ap precision_in c.normalize32-answer.ensures.answer }
