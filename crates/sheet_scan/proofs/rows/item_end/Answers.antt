-- `item_end` meets its contract, by its one test. Assumes nothing.
use borrow.Author.Tests.{eq-eqb, ne_eqb}
use native.Mathlib.Numerals.{add-one}
use Rattle.sheet_scan.proofs.rows.item_end.Goals as goal

pub returns-then-j-size : goal.returns-then-j-size
returns-then-j-size c = record { answer = rw (eq-eqb _ _ (rw add-one at c.if-j-size.true)) }

pub returns : goal.returns
returns c = record { answer = rw (ne_eqb _ _ (λ e. c.if-j-size.false (rw add-one e))) }
