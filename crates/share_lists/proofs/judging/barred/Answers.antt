-- `judging::barred` meets its contract: where the store is not closed the client is one of two, and its share may be read. Assumes nothing.
use mathlib.Core.Path.{sym, ◌∙◌}
use Rattle.share_lists.proofs.Facts.{entry}
use Rattle.share_lists.proofs.judging.barred.Goals as goal

pub returns-then-closed : goal.returns-then-closed
returns-then-closed c = record { answer = rw (sym c.closed.ensures.answer ∙ c.if-closed.true) }

pub share-requires : goal.share-requires
share-requires c =
    let a = c.args in
    let e = entry a.numbers.now a.slots a.starts a.sizes a.excesses a.client (sym c.closed.ensures.answer ∙ c.if-closed.false) in
    (e.ten, e.one_of_two)

pub returns : goal.returns
returns c = record { answer = rw (sym c.closed.ensures.answer ∙ c.if-closed.false) (c.scratch_misfits.ensures.answer ∙ rw c.share.ensures.answer.0) }
