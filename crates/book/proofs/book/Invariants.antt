-- `book`: after some sheets the report is theirs, and the text is right up to their end (`Read`). The first that is bad and the text's end are the two ways out. Assumes nothing.
use Prim.Native.Nat.{◌-◌}
use lib.ListN.{length}
use Rattle.book.proofs.BookLaws.{Read}
use Rattle.book.proofs.book.Given as goal

abbrev pub invariant-loop-at : goal.invariant-loop-at
invariant-loop-at l = Read l.text l.r l.at

abbrev pub decreases-loop-at : goal.decreases-loop-at
decreases-loop-at l = length l.text - l.at
