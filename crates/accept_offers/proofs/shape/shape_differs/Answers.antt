-- `shape::shape_differs` meets its contract: the five tests are the definition's. Assumes nothing.
use mathlib.Core.Path.{refl}
use Rattle.accept_offers.proofs.shape.shape_differs.Goals as goal

pub returns : goal.returns
returns c = record { answer = rw (c.unlike-other_starts.ensures.answer, c.unlike-other_sizes.ensures.answer) refl }
