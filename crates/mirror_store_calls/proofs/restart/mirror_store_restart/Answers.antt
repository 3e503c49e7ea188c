-- `mirror_store_restart`: the number of the answer, and the numbers as `restart` leaves them. Assumes nothing.
use mathlib.Core.Path.{◌∙◌, ap}
use Rattle.shares.specs.Restarted.{number_of}
use Rattle.mirror_store_calls.proofs.restart.mirror_store_restart.Goals as goal

pub returns : goal.returns
returns c = record { answer = c.number.ensures.answer ∙ ap number_of c.restart.ensures.answer; written = c.restart.ensures.written }
