-- `mirror_accept16`: the number of the library's answer, and its two lists. Assumes nothing.
use mathlib.Core.Path.{◌∙◌, ap}
use Rattle.repairs.specs.Answer.{number_of}
use Rattle.mirror_repairs.proofs.accept16.mirror_accept16.Goals as goal

pub returns : goal.returns
returns c = record { answer = c.number.ensures.answer ∙ ap number_of c.accept_offer16-answer.ensures.answer; written = c.accept_offer16-answer.ensures.written; written2 = c.accept_offer16-answer.ensures.written2 }
