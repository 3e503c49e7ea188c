-- `some_negative`: after j turns the flag says whether one of j weights is negative, and the next one is at p (`Looked`). Assumes nothing.
use Rattle.sheet_scan.specs.Lines.{weight_item}
use Rattle.book_windows.proofs.SignsLaws.{Looked}
use Rattle.book_windows.proofs.weights.some_negative.Given as goal

abbrev pub invariant-loop-j : goal.invariant-loop-j
invariant-loop-j l = Looked (weight_item l.limit l.size) l.text l.size l.at l.some l.p l.j
