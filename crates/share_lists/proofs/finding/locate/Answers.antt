-- `finding::locate` meets its contract: each field is what its function gives. Assumes nothing.
use Rattle.share_lists.proofs.finding.locate.Goals as goal

pub returns : goal.returns
returns c = record { answer = rw (c.number.ensures.answer, c.number-2.ensures.answer, c.wide.ensures.answer.0, c.behind.ensures.answer, c.slot_base-a.ensures.answer.0, c.line_base-b.ensures.answer, c.number-window.ensures.answer, c.number-held.ensures.answer) }
