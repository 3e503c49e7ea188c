-- `weights::some_negative`: the goals that the check leaves; the argument stands in Invariants.antt. Assumes nothing.
use mathlib.Core.Path.{refl}
use native.Mathlib.Omega.{arith}
use lib.IntN.{pos}
use mir.Facts.{to_z-of_z}
use mir.Syntax.{w64}
use borrow.Author.Rules.{rules}
use Rattle.sheet_scan.proofs.RowLaws.{apart_item}
use Rattle.excess_scan.proofs.InsideLaws.{inside_fits}
use Rattle.excess_scan.proofs.AlongLaws.{along_there}
use Rattle.book_windows.proofs.SignsLaws.{looked_none, looked_more, looked_all}
use Rattle.book_windows.proofs.weights.some_negative.Goals as goal

pub loop-j-init : goal.loop-j-init
loop-j-init c = looked_none _ _ _ _ c.requires.le_limit.2

pub weight-w-requires : goal.weight-w-requires
weight-w-requires c =
    let inv = c.loop-j.invariant.along in
    record { le_limit = (c.requires.le_limit.0, c.requires.le_limit.1, inv.within, search rules); there = along_there _ _ _ _ (pos 0) c.requires.there inv (search rules) }

pub loop-j-preserved : goal.loop-j-preserved
loop-j-preserved c =
    let inv = c.loop-j.invariant in
    let small = c.requires.le_limit.1 in
    let v = c.weight-w.result.value in
    let same = to_z-of_z (inside_fits w64 c.args.limit v (omega arith) c.weight-w.ensures.answer.good) in
    looked_more _ _ _ _ (apart_item c.args.limit c.args.size (omega arith) c.loop-j.j) inv (search rules) c.weight-w.ensures.answer (rw same refl)

pub returns : goal.returns
returns c = record { answer = looked_all _ _ _ _ c.loop-j.invariant (search rules) }
