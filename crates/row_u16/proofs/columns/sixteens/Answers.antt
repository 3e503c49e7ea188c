-- In integers too the first column comes first: nothing stands before it. Assumes nothing.
use native.Mathlib.Omega.{arith}
use lib.ListN.{length}
use Rattle.lists.proofs.TabLaws.{front_none}
use Rattle.vertical.specs.Column.{row_value}
use Rattle.row_u16.proofs.columns.sixteens.Goals as goal

pub chunks-requires : goal.chunks-requires
chunks-requires c =
    let a = c.args in
    record { wide = (omega arith, omega arith); le_p = c.requires.le_p; row_bound = c.requires.row_bound; ws_len_bound = c.requires.ws_len_bound; by_index = c.requires.by_index; out_bound = c.requires.out_bound; from_in_bounds = omega arith; out_value = front_none (row_value 65535 a.p a.ws.now a.src.now a.at0 a.row (length a.ws.now)) a.out.now }
