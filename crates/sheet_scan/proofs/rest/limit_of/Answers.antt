-- `limit_of` meets its contract, by its one test. Assumes nothing.
use borrow.Author.Tests.{eq-eqb, ne_eqb}
use Rattle.sheet_scan.proofs.rest.limit_of.Goals as goal

pub returns-then-bits-eq16 : goal.returns-then-bits-eq16
returns-then-bits-eq16 c = record { answer = rw (eq-eqb _ _ c.if-bits-eq16.true) }

pub returns : goal.returns
returns c = record { answer = rw (ne_eqb _ _ c.if-bits-eq16.false) }
