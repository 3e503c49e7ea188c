-- The columns before j are done, and a turn does one more. Assumes nothing.
use lib.ListN.{length}
use Rattle.lists.proofs.TabLaws.{Written}
use Rattle.vertical.specs.Column.{row_value}
use Rattle.row_u8.proofs.columns.tail.Given as goal

abbrev pub invariant-loop-j : goal.invariant-loop-j
invariant-loop-j l = Written l.j (row_value 255 l.p l.ws l.src l.at0 l.row (length l.ws)) l.initial.out l.out
