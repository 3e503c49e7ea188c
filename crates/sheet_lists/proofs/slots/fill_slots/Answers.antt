-- `fill_slots`: the goals that the check leaves; the argument stands in Invariants.antt. Assumes nothing.
use mathlib.Core.Path.{◌≡◌, refl, sym, ap, ◌∙◌}
use Prim.Native.Nat.{ℕ, ◌+◌, ◌-◌, ◌*◌, ◌≤◌}
use lib.ListN.{length}
use Rattle.lists.specs.Tab.{tab}
use Rattle.windows.proofs.WeightLaws.{length_values, values_part}
use Rattle.sheet_scan.specs.Whole.{slot_of}
use Rattle.scan.proofs.FieldLaws.{found_within}
use Rattle.excess_scan.proofs.LineLaws.{lined_there, lined_items}
use Rattle.sheet_lists.proofs.SlotLaws.{slotted_none, slotted_end, slotted_more, slotted_all}
use native.Mathlib.Omega.{arith}
use borrow.Author.Rules.{rules}
use Rattle.sheet_lists.proofs.slots.fill_slots.Goals as goal

pub loop-i-init : goal.loop-i-init
loop-i-init g c = (refl, slotted_none _ _ _ _ _ _ _ c.requires.le_lines.4)

pub opened-line-requires : goal.opened-line-requires
opened-line-requires g c =
    let inv = c.loop-i.invariant.1.lined in
    record { le_lines = (c.requires.le_lines.0, c.requires.le_lines.1, inv.within); there = lined_there _ _ _ _ _ _ c.requires.there inv (search rules) }

pub overflow_add-e : goal.overflow_add-e
overflow_add-e g c =
    let room : c.args.outs * c.args.window ≤ length (g.W.Weight.values c.args.weights.now) = rw (length_values g.met.W.Weight.each c.args.weights.now) c.requires.window_in_bounds in
    let end = rw (length_values g.met.W.Weight.each c.loop-i.weights) at (slotted_end _ _ _ _ _ _ _ c.loop-i.invariant.1 (search rules) room) in
    search rules

pub offset_bounds-weights-a : goal.offset_bounds-weights-a
offset_bounds-weights-a g c =
    let room : c.args.outs * c.args.window ≤ length (g.W.Weight.values c.args.weights.now) = rw (length_values g.met.W.Weight.each c.args.weights.now) c.requires.window_in_bounds in
    let end = rw (length_values g.met.W.Weight.each c.loop-i.weights) at (slotted_end _ _ _ _ _ _ _ c.loop-i.invariant.1 (search rules) room) in
    search rules

pub slice_bounds-fill_row-end : goal.slice_bounds-fill_row-end
slice_bounds-fill_row-end g c =
    let room : c.args.outs * c.args.window ≤ length (g.W.Weight.values c.args.weights.now) = rw (length_values g.met.W.Weight.each c.args.weights.now) c.requires.window_in_bounds in
    let end = rw (length_values g.met.W.Weight.each c.loop-i.weights) at (slotted_end _ _ _ _ _ _ _ c.loop-i.invariant.1 (search rules) room) in
    search rules

pub fill_row-p-requires : goal.fill_row-p-requires
fill_row-p-requires g c =
    let inv = c.loop-i.invariant.1 in
    let small = c.opened-line.ensures.answer.good.1 in
    let part = c.fill_row-arg-1.given.1 in
    record { le_limit = (c.requires.le_lines.2, c.requires.le_lines.3, found_within _ inv.lined.within c.opened-line.ensures.answer, omega arith); there = lined_items _ _ _ _ _ _ (search rules) inv.lined (search rules) c.opened-line.ensures.answer c.requires.there }

pub loop-i-preserved : goal.loop-i-preserved
loop-i-preserved g c =
    let inv = c.loop-i.invariant.1 in
    let room : c.args.outs * c.args.window ≤ length (g.W.Weight.values c.args.weights.now) = rw (length_values g.met.W.Weight.each c.args.weights.now) c.requires.window_in_bounds in
    let part = c.fill_row-arg-1.given.1 in
    let off = c.loop-i.a in
    let window = c.args.window in
    let wide : off + window - off ≡ window = omega arith in
    (refl, rw (values_part g.met.W.Weight.each c.loop-i.weights) (slotted_more _ _ _ _ _ _ _ (search rules) c.requires.there room inv (search rules) c.opened-line.ensures.answer wide c.fill_row-p.ensures.answer (λ vs next g. c.fill_row-p.ensures.written vs next g ∙ ap (λ (n : ℕ). tab 0 n (slot_of vs)) (sym part ∙ wide))))

pub returns : goal.returns
returns g c = record { written = slotted_all _ _ _ _ _ _ _ c.loop-i.invariant.1 (search rules) }
