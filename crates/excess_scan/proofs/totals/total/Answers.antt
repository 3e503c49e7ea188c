-- `totals::total`: the goals that the check leaves; the argument stands in Invariants.antt. Assumes nothing.
use mathlib.Core.Path.{refl, ◌∙◌}
use native.Mathlib.Omega.{arith}
use lib.IntN.{pos}
use mir.Facts.{to_z-of_z}
use mir.Syntax.{w64}
use borrow.Author.Rules.{rules}
use Rattle.excesses.proofs.SumLaws.{back}
use Rattle.sheet_scan.proofs.RowLaws.{apart_item}
use Rattle.excess_scan.proofs.InsideLaws.{inside_small, inside_fits}
use Rattle.excess_scan.proofs.AlongLaws.{along_there}
use Rattle.excess_scan.proofs.TotalLaws.{summed_none, summed_more, summed_all}
use Rattle.excess_scan.proofs.totals.total.Goals as goal

pub loop-j-init : goal.loop-j-init
loop-j-init c = summed_none _ _ _ _ c.requires.le_limit.3

pub weight-w-requires : goal.weight-w-requires
weight-w-requires c =
    let inv = c.loop-j.invariant.along in
    record { le_limit = (c.requires.le_limit.0, c.requires.le_limit.1, inv.within, search rules); there = along_there _ _ _ _ (pos 0) c.requires.there inv (search rules) }

pub add-t-requires : goal.add-t-requires
add-t-requires c =
    let inv = c.loop-j.invariant in
    let small = c.requires.le_limit.1 in
    let few = c.requires.le_limit.2 in
    let good = c.weight-w.ensures.answer.good in
    let v = c.weight-w.result.value in
    (omega (arith, inv.small, inv.along.few), rw (to_z-of_z (inside_fits w64 c.args.limit v (omega arith) good)) (inside_small c.args.limit v small good))

pub loop-j-preserved : goal.loop-j-preserved
loop-j-preserved c =
    let inv = c.loop-j.invariant in
    let small = c.requires.le_limit.1 in
    let v = c.weight-w.result.value in
    let same = to_z-of_z (inside_fits w64 c.args.limit v (omega arith) c.weight-w.ensures.answer.good) in
    summed_more _ _ _ _ (apart_item c.args.limit c.args.size (omega arith) c.loop-j.j) inv (search rules) c.weight-w.ensures.answer (inside_small c.args.limit v small c.weight-w.ensures.answer.good) (back c.add-t.type_inv ∙ c.add-t.ensures.answer ∙ rw same refl)

pub returns : goal.returns
returns c =
    let inv = c.loop-j.invariant in
    let few = c.requires.le_limit.2 in
    record { answer = summed_all _ _ _ _ inv (search rules); small = omega (arith, inv.small, inv.along.few) }
