-- `finding::find` meets its contract: where the store is not closed the client is one of two, and its numbers may be read. Assumes nothing.
use mathlib.Core.Path.{sym, ◌∙◌}
use Rattle.share_lists.specs.Inner.{found_in}
use Rattle.share_lists.proofs.Facts.{entry}
use Rattle.share_lists.proofs.finding.find.Goals as goal

pub returns-then-closed : goal.returns-then-closed
unfolding found_in
returns-then-closed c = record { answer = rw (sym c.closed.ensures.answer ∙ c.if-closed.true) }

pub has_none-requires : goal.has_none-requires
has_none-requires c =
    let a = c.args in
    let e = entry a.numbers.now a.slots a.starts a.sizes a.excesses a.client (sym c.closed.ensures.answer ∙ c.if-closed.false) in
    record { fact_1 = e.ten; fact_2 = e.one_of_two }

pub returns-then-has_none : goal.returns-then-has_none
unfolding found_in
returns-then-has_none c = record { answer = rw (sym c.closed.ensures.answer ∙ c.if-closed.false, sym c.has_none.ensures.answer ∙ c.if-has_none.true) }

pub locate-requires : goal.locate-requires
locate-requires c =
    let a = c.args in
    let e = entry a.numbers.now a.slots a.starts a.sizes a.excesses a.client (sym c.closed.ensures.answer ∙ c.if-closed.false) in
    record { fact_1 = e.ten; fact_2 = e.one_of_two }

pub returns : goal.returns
unfolding found_in
returns c = record { answer = rw (sym c.closed.ensures.answer ∙ c.if-closed.false, sym c.has_none.ensures.answer ∙ c.if-has_none.false, c.locate.ensures.answer) }
