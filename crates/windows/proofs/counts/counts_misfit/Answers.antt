-- The tests are those of the definition, in its order; the product is judged by `fills`. Assumes nothing.
use Rattle.windows.proofs.counts.counts_misfit.Goals as goal

-- src/lib.rt
pub returns : goal.returns
returns c = record { answer = rw c.fills-full.ensures.answer }
