-- `put_weights`: after j turns the first j slots are the weights, and the next one is at p (`Filled`). A weight inside the limit fits its store, so it is kept. Assumes nothing.
use Rattle.sheet_scan.specs.Lines.{weight_item}
use Rattle.sheet_lists.proofs.FillLaws.{Filled}
use Rattle.sheet_lists.proofs.slots.put_weights.Given as goal

abbrev pub invariant-loop-j : goal.invariant-loop-j
invariant-loop-j g l = Filled (weight_item l.limit l.size) l.text l.size l.at (g.W.Weight.values l.initial.out) (g.W.Weight.values l.out) l.p l.j
