-- `zero`: after k turns the first k slots are 0. Assumes nothing.
use Rattle.lists.proofs.TabLaws.{Written}
use Rattle.sheet_scan.specs.Whole.{no_weight}
use Rattle.sheet_lists.proofs.slots.zero.Given as goal

abbrev pub invariant-loop-slot : goal.invariant-loop-slot
invariant-loop-slot g l = Written l.slot-index no_weight (g.W.Weight.values l.initial.out) (g.W.Weight.values l.out)
