-- `filter_scale` meets its contract, by the tests that led to each return. Assumes nothing.
use Rattle.plans.specs.Plan.{filter_scale_of}
use Rattle.plans.proofs.planning.filter_scale.Goals as goal

pub returns-then-scale : goal.returns-then-scale
unfolding filter_scale_of
returns-then-scale c = record { answer = rw (c.if-adapts.true, c.if-scale.true) }

pub returns-else-scale : goal.returns-else-scale
unfolding filter_scale_of
returns-else-scale c = record { answer = rw (c.if-adapts.true, c.if-scale.false) }

pub returns-else-adapts : goal.returns-else-adapts
unfolding filter_scale_of
returns-else-adapts c = record { answer = rw c.if-adapts.false }
