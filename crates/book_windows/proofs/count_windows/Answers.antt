-- `count_windows`: the goals that the check leaves; the argument stands in Invariants.antt. Assumes nothing.
use mathlib.Core.Path.{ap, ◌∙◌}
use native.Mathlib.Omega.{arith}
use mir.Facts.{to_z-of_z}
use mir.Syntax.{w64}
use mir.Val.{SFits}
use borrow.Author.Rules.{rules}
use Rattle.scan.proofs.FieldLaws.{found_within}
use Rattle.excess_scan.proofs.LineLaws.{lined_there, lined_items}
use Rattle.book_numbers.specs.Joins.{join_of}
use Rattle.book_windows.proofs.CountLaws.{counted_none, counted_more, counted_all}
use Rattle.book_windows.proofs.count_windows.Goals as goal

pub loop-i-init : goal.loop-i-init
loop-i-init c = counted_none _ _ _ _ _ _ _ c.requires.mid_in_bounds.0

pub opened-line-requires : goal.opened-line-requires
opened-line-requires c =
    let inv = c.loop-i.invariant.lined in
    record { le_lines = (c.requires.le_lines.0, c.requires.le_lines.3, inv.within); there = lined_there _ _ _ _ _ _ c.requires.mid_in_bounds.1 inv (search rules) }

pub window_excess-e-requires : goal.window_excess-e-requires
window_excess-e-requires c =
    let inv = c.loop-i.invariant.lined in
    let ends = c.opened-line.ensures.answer.good.2 in
    let few = c.requires.le_lines.1 in
    record { precision_bound = (c.requires.le_lines.6, c.requires.le_lines.4, c.requires.le_lines.5, omega arith, found_within _ inv.within c.opened-line.ensures.answer); there = lined_items _ _ _ _ _ _ (search rules) inv (search rules) c.opened-line.ensures.answer c.requires.mid_in_bounds.1 }

pub some_negative-negative-requires : goal.some_negative-negative-requires
some_negative-negative-requires c =
    let inv = c.loop-i.invariant.lined in
    record { le_limit = (c.requires.le_lines.4, c.requires.le_lines.5, found_within _ inv.within c.opened-line.ensures.answer); there = lined_items _ _ _ _ _ _ (search rules) inv (search rules) c.opened-line.ensures.answer c.requires.mid_in_bounds.1 }

pub window_report-requires : goal.window_report-requires
window_report-requires c = c.requires.le_lines.6

pub loop-i-preserved : goal.loop-i-preserved
loop-i-preserved c =
    let inv = c.loop-i.invariant in
    let e = c.window_excess-e in
    let fits : SFits w64 e.result.value = search rules in
    let one = rw (to_z-of_z fits) at c.window_report.ensures.answer in
    counted_more _ _ _ _ _ _ _ (search rules) c.requires.le_lines.2 c.requires.mid_in_bounds.1 inv (search rules) c.opened-line.ensures.answer e.ensures.answer c.some_negative-negative.ensures.answer (c.join-r.ensures.answer ∙ ap (join_of c.loop-i.r) one)

pub returns : goal.returns
returns c = record { answer = counted_all _ _ _ _ _ _ _ c.loop-i.invariant (search rules) }
