-- `clamp01` meets its contract: a return for each end of `clamped`, by the tests that led there. Assumes nothing.
use Rattle.crop_fit.proofs.clamp01.Goals as goal

pub returns-then-x : goal.returns-then-x
returns-then-x c = record { answer = rw c.if-x.true }

pub returns-then-x-2 : goal.returns-then-x-2
returns-then-x-2 c = record { answer = rw (c.if-x.false, c.if-x-2.true) }

pub returns : goal.returns
returns c = record { answer = rw (c.if-x.false, c.if-x-2.false) }
