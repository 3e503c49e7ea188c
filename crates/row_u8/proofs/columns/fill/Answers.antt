-- The rest goes on from where the chunks ended. Assumes nothing.
use mathlib.Core.Path.{◌≡◌}
use native.Mathlib.Omega.{arith}
use lib.ListN.{length}
use Rattle.vertical.specs.Column.{row_value}
use Rattle.vertical.proofs.ColumnLaws.{done_again}
use Rattle.row_u8.proofs.columns.fill.Goals as goal

pub tail-requires : goal.tail-requires
tail-requires c =
    let s = c.chunks-a in
    let a = c.args in
    let long : length s.new.out ≡ length a.out.now = s.auto.out in
    record { le_p = c.requires.le_p; ws_bound = c.requires.ws_bound; row_bound = c.requires.row_bound; by_index = (λ k l. omega (arith, c.requires.by_index k l)); out_bound = omega (arith, c.requires.out_bound); from_in_bounds = omega (arith, s.ensures.upper_bound); out_value = done_again (row_value 255 a.p a.ws.now a.src.now a.at0 a.row (length a.ws.now)) a.out.now s.result s.ensures.out_after }
