-- The tests are those of the definition; the product is judged by `fills`. Assumes nothing.
use borrow.Author.Rules.{rules}
use Rattle.vertical.proofs.columns_fit.Goals as goal

pub returns : goal.returns
returns c = record { answer = rw c.fills-full.ensures.answer }
