-- `finding::unset` meets its contract: the product is taken in 64 bits, where it cannot wrap. Assumes nothing.
use Rattle.share_lists.proofs.finding.unset.Goals as goal

pub returns : goal.returns
returns c = record { answer = rw c.many-some.ensures.answer.0 }
