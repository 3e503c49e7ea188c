-- The columns before j are done; a turn writes the next thirty-two through their part of the output. Assumes nothing.
use Prim.Native.Nat.{◌*◌}
use lib.ListN.{length}
use Rattle.lists.proofs.TabLaws.{Written}
use Rattle.vertical.specs.Column.{row_value}
use Rattle.row_u8.proofs.columns.chunks.Given as goal

abbrev pub invariant-loop-q : goal.invariant-loop-q
invariant-loop-q l = Written (l.q * 32) (row_value 255 l.p l.ws l.src l.at0 l.row (length l.ws)) l.initial.out l.out
