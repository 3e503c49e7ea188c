-- A sum that starts from the half is the half added at the end (`shifted_from`). Assumes nothing.
use mathlib.Core.Path.{◌∙◌}
use lib.ListN.{length}
use Rattle.vertical.proofs.ReadBack.{back32 as back}
use Rattle.vertical.proofs.ColumnLaws.{column_is}
use Rattle.row_u8.proofs.sums.pixel.Goals as goal

pub returns : goal.returns
returns c =
    let h = c.half in
    let a = c.args in
    c.clip.ensures ∙ rw (back c.sum.type_inv, c.sum.ensures, back h.type_inv, h.ensures) (column_is 255 a.p a.ws.now a.src.now a.at a.row (length a.ws.now))
