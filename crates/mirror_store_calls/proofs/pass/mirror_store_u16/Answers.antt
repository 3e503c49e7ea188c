-- `mirror_store_u16`: the number of the answer, and the output as `pass` leaves it. Assumes nothing.
use mathlib.Core.Path.{◌∙◌, ap}
use Rattle.vertical.specs.Passed.{number_of}
use Rattle.mirror_store_calls.proofs.pass.mirror_store_u16.Goals as goal

pub returns : goal.returns
returns c = record { answer = c.number.ensures.answer ∙ ap number_of c.pass.ensures.answer; written = c.pass.ensures.written }
