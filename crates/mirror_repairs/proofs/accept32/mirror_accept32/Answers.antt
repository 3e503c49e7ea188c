-- `mirror_accept32`: the number of the library's answer, and its two lists. Assumes nothing.
use mathlib.Core.Path.{◌∙◌, ap}
use Rattle.repairs.specs.Answer.{number_of}
use Rattle.mirror_repairs.proofs.accept32.mirror_accept32.Goals as goal

pub returns : goal.returns
returns c = record { answer = c.number.ensures.answer ∙ ap number_of c.accept_offer32-answer.ensures.answer; written = c.accept_offer32-answer.ensures.written; written2 = c.accept_offer32-answer.ensures.written2 }
