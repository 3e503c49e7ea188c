-- `columns::tail`: the goals that the check leaves; the argument stands in Invariants.antt. Assumes nothing.
use native.Mathlib.Omega.{arith}
use lib.ListN.{length}
use Rattle.row_f32.proofs.SumLaws.{good_part}
use Rattle.row_f32.proofs.columns.tail.Goals as goal

pub pixel-requires : goal.pixel-requires
pixel-requires c =
    let a = c.args in
    good_part a.ws.now a.src.now a.at0 a.row (length a.out.now) c.requires.summable c.loop-j.j 1 (omega arith)
