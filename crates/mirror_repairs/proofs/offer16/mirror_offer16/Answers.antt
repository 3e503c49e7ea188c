-- `mirror_offer16`: number and line of the library's answer, and its list. Assumes nothing.
use mathlib.Core.Path.{◌∙◌, ap}
use Rattle.repairs.specs.Answer.{offered_number, offered_line}
use Rattle.mirror_repairs.proofs.offer16.mirror_offer16.Goals as goal

pub returns : goal.returns
returns c = record { answer = c.number.ensures.answer ∙ ap offered_number c.make_offer16-answer.ensures.answer; written = c.make_offer16-answer.ensures.written; written2 = c.line.ensures.answer ∙ ap offered_line c.make_offer16-answer.ensures.answer }
