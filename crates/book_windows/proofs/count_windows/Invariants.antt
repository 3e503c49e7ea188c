-- `count_windows`: after i turns the report is that of i windows, and the next window's line is at p (`Counted`). Assumes nothing.
use Rattle.book_windows.proofs.CountLaws.{Counted}
use Rattle.book_windows.proofs.count_windows.Given as goal

abbrev pub invariant-loop-i : goal.invariant-loop-i
invariant-loop-i l = Counted l.lines l.size l.limit l.outs l.precision l.text l.mid l.r l.p l.i
