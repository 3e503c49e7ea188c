-- A sum that starts from the half is the half added at the end (`shifted_from`). Assumes nothing.
use native.Mathlib.Omega.{arith}
use lib.ListN.{length}
use Rattle.row_u16.proofs.Parts.{clipped_is}
use Rattle.row_u16.proofs.Sizes.{half_size}
use Rattle.row_u16.proofs.columns.chunk.Goals as goal

pub add_lines-requires : goal.add_lines-requires
add_lines-requires c = record { row_bound = c.requires.row_bound; ws_len_bound = c.requires.ws_len_bound; by_index = (λ k l. omega (arith, c.requires.ss_len, c.requires.by_index k l)); by_index_2 = λ t l. half_size c.args.p c.requires.le_p.1 (c.requires.by_index_2 t l) }

pub returns : goal.returns
returns c =
    let a = c.args in
    clipped_is a.p a.ws.now a.src.now a.at0 a.row a.ss.now (length a.out.now) (omega (arith, c.requires.ss_len)) c.requires.by_index_2 c.add_lines.ensures c.put_columns.ensures
