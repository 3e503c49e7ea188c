-- The columns before 16 * q are done; a turn writes the next sixteen through their part of the output. Assumes nothing.
use Prim.Native.Nat.{◌*◌}
use lib.ListN.{length}
use Rattle.lists.proofs.TabLaws.{Written}
use Rattle.vertical.specs.Column.{row_value}
use Rattle.row_u16.proofs.columns.short_chunks.Given as goal

abbrev pub invariant-loop-q : goal.invariant-loop-q
invariant-loop-q l = Written (l.q * 16) (row_value 65535 l.p l.ws l.src l.at0 l.row (length l.ws)) l.initial.out l.out
