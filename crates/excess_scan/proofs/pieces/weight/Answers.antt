-- `weight`: the weight is there, so a scan finds it; it is small, so 64 bits hold it. Assumes nothing.
use mathlib.Core.Path.{sym, subst}
use mir.Syntax.{w64}
use mir.Facts.{to_z-of_z}
use Rattle.scan.specs.Number.{NoDigit}
use Rattle.sheet_scan.proofs.RowLaws.{item_plain}
use Rattle.excess_scan.proofs.InsideLaws.{inside_fits}
use Rattle.excess_scan.proofs.SureLaws.{sure}
use native.Mathlib.Omega.{arith}
use Rattle.excess_scan.proofs.pieces.weight.Goals as goal

pub take_signed-requires : goal.take_signed-requires
take_signed-requires c =
    let pre = c.requires.le_limit in
    let small = pre.1 in
    (pre.0, omega arith, subst NoDigit (sym c.item_end.ensures.answer) (item_plain c.args.size c.args.j), pre.2)

pub unwrap-value-requires : goal.unwrap-value-requires
unwrap-value-requires c = sure _ c.take_signed.result c.requires.there (rw c.item_end.ensures.answer at c.take_signed.ensures.answer)

pub returns : goal.returns
returns c =
    let f = rw (c.item_end.ensures.answer, c.unwrap-value.ensures) at c.take_signed.ensures.answer in
    let small = c.requires.le_limit.1 in
    record { answer = rw (to_z-of_z (inside_fits w64 c.args.limit c.unwrap-value.result.0 (omega arith) f.good)) f }
