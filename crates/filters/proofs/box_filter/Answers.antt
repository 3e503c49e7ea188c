-- `box_filter` meets its contract: the test of `box_of` is the code's. Assumes nothing.
use Rattle.filters.specs.Filters.{box_of}
use Rattle.filters.proofs.box_filter.Goals as goal

pub returns-then-x : goal.returns-then-x
unfolding box_of
returns-then-x c = record { answer = rw c.if-x.true }

pub returns : goal.returns
unfolding box_of
returns c = record { answer = rw c.if-x.false }
