-- `judging::closed` meets its contract: the lists' lengths first, so that the two shares may be read. Assumes nothing.
use mathlib.Core.Path.{sym, ◌∙◌}
use native.Mathlib.Omega.{arith}
use lib.ListN.{length}
use Rattle.shares.proofs.Opened.{lengths}
use Rattle.share_lists.proofs.judging.closed.Goals as goal

pub returns-then-lists_misfit : goal.returns-then-lists_misfit
returns-then-lists_misfit c = record { answer = rw (sym c.lists_misfit.ensures.answer ∙ c.if-lists_misfit.true) }

pub bounds-numbers-0 : goal.bounds-numbers-0
bounds-numbers-0 c =
    let a = c.args in
    omega (arith, (lengths (length a.numbers.now) a.starts a.sizes a.excesses (sym c.lists_misfit.ensures.answer ∙ c.if-lists_misfit.false)).numbers)

pub bounds-numbers-5 : goal.bounds-numbers-5
bounds-numbers-5 c =
    let a = c.args in
    omega (arith, (lengths (length a.numbers.now) a.starts a.sizes a.excesses (sym c.lists_misfit.ensures.answer ∙ c.if-lists_misfit.false)).numbers)

pub returns : goal.returns
returns c = record { answer = rw (sym c.lists_misfit.ensures.answer ∙ c.if-lists_misfit.false, c.too_few.ensures.answer) }
