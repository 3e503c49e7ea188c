-- `finding::has_none` meets its contract: the three numbers are the client's. Assumes nothing.
use mathlib.Core.Path.{◌∙◌}
use Rattle.share_lists.proofs.finding.has_none.Goals as goal

pub returns : goal.returns
returns c = record { answer = c.unset.ensures.answer ∙ rw (c.number.ensures.answer, c.number-2.ensures.answer, c.number-3.ensures.answer) }
