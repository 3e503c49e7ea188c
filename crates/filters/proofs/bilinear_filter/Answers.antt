-- `bilinear_filter` meets its contract: a return for each line of `bilinear_of`, by the tests that led there. Assumes nothing.
use Rattle.filters.specs.Filters.{bilinear_of}
use Rattle.filters.proofs.bilinear_filter.Goals as goal

pub returns-then-y : goal.returns-then-y
unfolding bilinear_of
returns-then-y c = record { answer = rw c.if-y.true }

pub returns : goal.returns
unfolding bilinear_of
returns c = record { answer = rw c.if-y.false }
