-- `answers::said`: five numbers are the head's own, the filter's is what `filter_code` gives. Assumes nothing.
use Rattle.mirror_readers.proofs.answers.said.Goals as goal

pub returns : goal.returns
returns c = record { answer = rw c.filter_code.ensures.answer }
