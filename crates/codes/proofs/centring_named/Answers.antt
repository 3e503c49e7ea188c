-- `centring_named`: each way out is one arm of `centring_of`. Assumes nothing.
use borrow.Author.Tests.{eq-eqb, ne_eqb}
use Rattle.codes.proofs.centring_named.Goals as goal

pub returns-then-code-eq0 : goal.returns-then-code-eq0
returns-then-code-eq0 c = record { answer = rw (eq-eqb _ _ c.if-code-eq0.true) }

pub returns : goal.returns
returns c = record { answer = rw (ne_eqb _ _ c.if-code-eq0.false) }
