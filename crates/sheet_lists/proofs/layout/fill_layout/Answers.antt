-- `layout::fill_layout`: the goals that the check leaves; the argument stands in Invariants.antt. Assumes nothing.
use native.Mathlib.Omega.{arith}
use mir.Facts.{to_z-of_z}
use mir.Syntax.{w64}
use mir.Val.{SFits}
use borrow.Author.Rules.{rules}
use Rattle.scan.proofs.FieldLaws.{found_within}
use Rattle.excess_scan.proofs.LineLaws.{lined_there, lined_items}
use Rattle.sheet_lists.proofs.LayoutLaws.{listed_none, listed_more, listed_all}
use Rattle.sheet_lists.proofs.layout.fill_layout.Goals as goal

pub loop-i-init : goal.loop-i-init
loop-i-init c = listed_none _ _ _ _ _ _ _ _ _ _ c.requires.le_lines.6

pub opened-line-requires : goal.opened-line-requires
opened-line-requires c =
    let inv = c.loop-i.invariant.lined in
    record { le_lines = (c.requires.le_lines.0, c.requires.le_lines.2, inv.within); there = lined_there _ _ _ _ _ _ c.requires.there inv (search rules) }

pub bounds-starts-i : goal.bounds-starts-i
bounds-starts-i c =
    let long = c.loop-i.invariant.long_s in
    let room = c.requires.outs_in_bounds.0 in
    search rules

pub bounds-sizes-i : goal.bounds-sizes-i
bounds-sizes-i c =
    let long = c.loop-i.invariant.long_z in
    let room = c.requires.outs_in_bounds.1 in
    search rules

pub window_excess-e-requires : goal.window_excess-e-requires
window_excess-e-requires c =
    let inv = c.loop-i.invariant.lined in
    let ends = c.opened-line.ensures.answer.good.2 in
    let few = c.requires.le_lines.1 in
    record { precision_bound = (c.requires.le_lines.5, c.requires.le_lines.3, c.requires.le_lines.4, omega arith, found_within _ inv.within c.opened-line.ensures.answer); there = lined_items _ _ _ _ _ _ (search rules) inv (search rules) c.opened-line.ensures.answer c.requires.there }

pub bounds-excesses-i : goal.bounds-excesses-i
bounds-excesses-i c =
    let long = c.loop-i.invariant.long_e in
    let room = c.requires.outs_in_bounds.2 in
    search rules

pub loop-i-preserved : goal.loop-i-preserved
loop-i-preserved c =
    let inv = c.loop-i.invariant in
    let e = c.window_excess-e in
    let fits : SFits w64 e.result.value = search rules in
    rw (to_z-of_z fits)
    (listed_more _ _ _ _ _ _ _ _ _ _ (search rules) c.requires.there c.requires.outs_in_bounds.0 c.requires.outs_in_bounds.1 c.requires.outs_in_bounds.2 inv (search rules) c.opened-line.ensures.answer e.ensures.answer)

pub shape_of-starts : goal.shape_of-starts
shape_of-starts c = c.loop-i.invariant.long_s

pub shape_of-sizes : goal.shape_of-sizes
shape_of-sizes c = c.loop-i.invariant.long_z

pub shape_of-excesses : goal.shape_of-excesses
shape_of-excesses c = c.loop-i.invariant.long_e

pub returns : goal.returns
returns c =
    let done = listed_all _ _ _ _ _ _ _ _ _ _ c.loop-i.invariant (search rules) in
    record { starts = λ rows next f. (done rows next f).0; sizes = λ rows next f. (done rows next f).1; excesses = λ rows next f. (done rows next f).2 }
