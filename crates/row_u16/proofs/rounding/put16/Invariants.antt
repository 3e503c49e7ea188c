-- After t turns the first t places hold their sample. Assumes nothing.
use Rattle.lists.proofs.TabLaws.{Written}
use Rattle.row_u16.specs.Chunks.{cut_at}
use Rattle.row_u16.proofs.rounding.put16.Given as goal

abbrev pub invariant-loop-t : goal.invariant-loop-t
invariant-loop-t l = Written l.t (cut_at l.ss l.top l.big) l.initial.out l.out
