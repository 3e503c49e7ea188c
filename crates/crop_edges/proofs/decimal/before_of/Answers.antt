-- The point is not before the digits (`point_in`). Assumes nothing.
use Rattle.crop_edges.specs.Edge.{before_of_value}
use Rattle.crop_edges.proofs.EdgeLaws.{point_in}
use Rattle.crop_edges.proofs.decimal.before_of.Goals as goal

pub overflow_sub-result : goal.overflow_sub-result
overflow_sub-result c = rw (c.whole_at.ensures.answer, c.point_at.ensures.answer) (point_in c.args.text.now).0

pub returns : goal.returns
unfolding before_of_value
returns c = record { answer = rw (c.whole_at.ensures.answer, c.point_at.ensures.answer) }
