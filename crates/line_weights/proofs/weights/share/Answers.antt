-- `share` meets its contract: the test of `share_of` is the code's. Assumes nothing.
use borrow.Author.Tests.{lt-ltb, le-ltb}
use Rattle.line_weights.proofs.weights.share.Goals as goal

pub returns-then-k-n : goal.returns-then-k-n
returns-then-k-n c = record { answer = rw (lt-ltb _ _ c.if-k-n.true) }

pub returns : goal.returns
returns c = record { answer = rw (le-ltb _ _ c.if-k-n.false) }
