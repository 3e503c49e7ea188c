-- The fraction begins inside the text (`fraction_in`). Assumes nothing.
use Rattle.crop_edges.specs.Edge.{places_of_value}
use Rattle.crop_edges.proofs.EdgeLaws.{fraction_in}
use Rattle.crop_edges.proofs.decimal.places_of.Goals as goal

pub overflow_sub-result : goal.overflow_sub-result
overflow_sub-result c = rw c.fraction_at.ensures.answer (fraction_in c.args.text.now).1

pub returns : goal.returns
unfolding places_of_value
returns c = record { answer = rw c.fraction_at.ensures.answer }
