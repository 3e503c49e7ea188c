-- `scan_list`: after i turns i excesses stand as they should, the next is at q and the next window's line at p (`Compared`). Assumes nothing.
use Rattle.excess_scan.proofs.CompareLaws.{Compared}
use Rattle.excess_scan.proofs.line.scan_list.Given as goal

abbrev pub invariant-loop-i : goal.invariant-loop-i
invariant-loop-i l = Compared l.lines l.window l.limit l.outs l.precision l.text l.mid l.at l.p l.q l.i
