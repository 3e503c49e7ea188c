-- `total`: after j turns `t` is the total of j weights, at most 2^31 for each, and the next one is at p (`Summed`). Assumes nothing.
use Rattle.sheet_scan.specs.Lines.{weight_item}
use Rattle.excess_scan.proofs.TotalLaws.{Summed}
use Rattle.excess_scan.proofs.totals.total.Given as goal

abbrev pub invariant-loop-j : goal.invariant-loop-j
invariant-loop-j l = Summed (weight_item l.limit l.size) l.text l.size l.at (l.t) l.p l.j
