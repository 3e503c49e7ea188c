-- `line::scan_list`: the goals that the check leaves; the argument stands in Invariants.antt. Assumes nothing.
use native.Mathlib.Omega.{arith}
use mir.Facts.{to_z-of_z}
use mir.Syntax.{w64}
use mir.Val.{SFits}
use borrow.Author.Rules.{rules}
use Rattle.scan.proofs.Handed.{handed}
use Rattle.scan.proofs.FieldLaws.{found_within}
use Rattle.excess_scan.proofs.LineLaws.{lined_there, lined_items}
use Rattle.excess_scan.proofs.CompareLaws.{compared_none, compared_more, compared_stopped, compared_all}
use Rattle.excess_scan.proofs.line.scan_list.Goals as goal

pub loop-i-init : goal.loop-i-init
loop-i-init c = compared_none _ _ _ _ _ _ _ _ c.requires.mid_in_bounds.0 c.requires.mid_in_bounds.1

pub opened-line-requires : goal.opened-line-requires
opened-line-requires c =
    let inv = c.loop-i.invariant.lined in
    record { le_lines = (c.requires.le_lines.0, c.requires.le_lines.2, inv.within); there = lined_there _ _ _ _ _ _ c.requires.there inv (search rules) }

pub window_excess-e-requires : goal.window_excess-e-requires
window_excess-e-requires c =
    let inv = c.loop-i.invariant.lined in
    let ends = c.opened-line.ensures.answer.good.2 in
    let few = c.requires.le_lines.1 in
    record { precision_bound = (c.requires.le_lines.5, c.requires.le_lines.3, c.requires.le_lines.4, omega arith, found_within _ inv.within c.opened-line.ensures.answer); there = lined_items _ _ _ _ _ _ (search rules) inv (search rules) c.opened-line.ensures.answer c.requires.there }

pub take_known-requires : goal.take_known-requires
take_known-requires c = c.loop-i.invariant.within

pub returns-in_err-q : goal.returns-in_err-q
returns-in_err-q c =
    let inv = c.loop-i.invariant in
    let e = c.window_excess-e in
    let fits : SFits w64 e.result.value = search rules in
    let stopped = rw (to_z-of_z fits) at c.in_err-q.ensures.answer in
    record {
      answer = rw (handed c.from_residual.result _ c.from_residual.ensures.1)
          (compared_stopped _ _ _ _ _ _ _ _ (search rules) c.requires.there inv (search rules) c.opened-line.ensures.answer e.ensures.answer c.item_end.ensures.answer stopped);
    }

pub loop-i-preserved : goal.loop-i-preserved
loop-i-preserved c =
    let inv = c.loop-i.invariant in
    let e = c.window_excess-e in
    let fits : SFits w64 e.result.value = search rules in
    let found = rw (c.in_ok-q.was, to_z-of_z fits) at c.take_known.ensures.answer in
    compared_more _ _ _ _ _ _ _ _ (search rules) c.requires.there inv (search rules) c.opened-line.ensures.answer e.ensures.answer c.item_end.ensures.answer found.1

pub returns : goal.returns
returns c = record { answer = λ rows next f. (tt, compared_all _ _ _ _ _ _ _ _ c.loop-i.invariant (search rules) rows next f) }
