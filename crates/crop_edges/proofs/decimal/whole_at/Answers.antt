-- The test is the definition's. Assumes nothing.
use Rattle.std.proofs.Common.{sym, ◌∙◌}
use Rattle.crop_edges.specs.Edge.{whole_at}
use Rattle.crop_edges.proofs.decimal.whole_at.Goals as goal

pub returns-then-minus : goal.returns-then-minus
unfolding whole_at
returns-then-minus c = record { answer = rw (sym c.minus.ensures.answer ∙ c.if-minus.true) }

pub returns-else-minus : goal.returns-else-minus
unfolding whole_at
returns-else-minus c = record { answer = rw (sym c.minus.ensures.answer ∙ c.if-minus.false) }
