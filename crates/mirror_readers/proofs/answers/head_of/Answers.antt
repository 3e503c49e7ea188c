-- `answers::head_of`: an arm for each case of the answer. Assumes nothing.
use Rattle.mirror_readers.proofs.answers.head_of.Goals as goal

pub returns-in-Ok : goal.returns-in-Ok
returns-in-Ok c = record { answer = rw c.in-Ok.is c.said.ensures.answer }

pub returns-in-Err : goal.returns-in-Err
returns-in-Err c = record { answer = rw c.in-Err.is c.nothing.ensures.answer }
