-- After i windows each of their rows stands in its place, by the laws that both passes over integers share; `WindowThere` says that all of the next one's indices are
-- there. Assumes nothing.
use Rattle.vertical.proofs.RowTurns.{RowsDone}
use Rattle.vertical_u16.proofs.rows.rows.Given as goal

abbrev pub invariant-loop-i : goal.invariant-loop-i
invariant-loop-i l = RowsDone 65535 l.src l.row l.first l.count l.starts l.sizes l.window l.weights l.p l.initial.out l.i l.o l.out
