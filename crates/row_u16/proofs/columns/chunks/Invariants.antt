-- The columns before `from` + q * N are done; a turn writes the next N through their part of the output. Assumes nothing.
use Prim.Native.Nat.{◌+◌, ◌*◌}
use lib.ListN.{length}
use Rattle.lists.proofs.TabLaws.{Written}
use Rattle.vertical.specs.Column.{row_value}
use Rattle.row_u16.proofs.columns.chunks.Given as goal

abbrev pub invariant-loop-q : goal.invariant-loop-q
invariant-loop-q g l = Written (l.from + l.q * g.row.N) (row_value 65535 l.p l.ws l.src l.at0 l.row (length l.ws)) l.initial.out l.out
