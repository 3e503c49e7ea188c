-- The test is the definition's. Assumes nothing.
use Rattle.std.proofs.Common.{le-ltb, lt-ltb}
use Rattle.crop_edges.specs.Edge.{fraction_at_value}
use Rattle.crop_edges.proofs.decimal.fraction_at.Goals as goal

pub returns-then-p-text : goal.returns-then-p-text
unfolding fraction_at_value
returns-then-p-text c = record { answer = rw (← c.point_at-p.ensures.answer, lt-ltb _ _ c.if-p-text.true) }

pub returns-else-p-text : goal.returns-else-p-text
unfolding fraction_at_value
returns-else-p-text c = record { answer = rw (← c.point_at-p.ensures.answer, le-ltb _ _ c.if-p-text.false) }
