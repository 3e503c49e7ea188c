-- After t turns the first t sums have their line's part; a sum that is not reached yet is as it was. Assumes nothing.
use Rattle.lists.proofs.TabLaws.{Written}
use Rattle.row_u16.specs.Chunks.{step_at}
use Rattle.row_u16.proofs.sums.add_line.Given as goal

abbrev pub invariant-loop-t : goal.invariant-loop-t
invariant-loop-t l = Written l.t (step_at l.initial.ss (l.w) l.src l.at) l.initial.ss l.ss
