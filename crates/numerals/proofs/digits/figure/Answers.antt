-- The test is the definition's. Assumes nothing.
use borrow.Author.Tests.{lt-ltb, le-ltb}
use Rattle.numerals.specs.Digits.{figure}
use Rattle.numerals.proofs.digits.figure.Goals as goal

pub returns-then-d-base : goal.returns-then-d-base
unfolding figure
returns-then-d-base c = record { answer = rw (← c.digit-d.ensures.answer, lt-ltb _ _ c.if-d-base.true) }

pub returns-else-d-base : goal.returns-else-d-base
unfolding figure
returns-else-d-base c = record { answer = rw (← c.digit-d.ensures.answer, le-ltb _ _ c.if-d-base.false) }
