-- After t turns the first t places hold their sample. Assumes nothing.
use Rattle.lists.proofs.TabLaws.{Written}
use Rattle.vertical.specs.Column.{clipped_at}
use Rattle.row_u8.proofs.columns.put32.Given as goal

abbrev pub invariant-loop-t : goal.invariant-loop-t
invariant-loop-t l = Written l.t (clipped_at 255 l.ss l.p) l.initial.out l.out
