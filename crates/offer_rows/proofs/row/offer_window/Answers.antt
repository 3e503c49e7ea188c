-- `row::offer_window`: the goals that the check leaves; the argument stands in Invariants.antt. Assumes nothing.
use mathlib.Core.Path.{◌≡◌, refl, ◌∙◌}
use Prim.Native.Nat.{◌+◌}
use native.Mathlib.Omega.{arith}
use lib.IntN.{pos}
use lib.ListN.{length}
use mir.Facts.{to_z-of_z}
use mir.Syntax.{w64}
use mir.Val.{to_z, of_z}
use Rattle.lists.proofs.TabLaws.{written_none, front_whole}
use Rattle.windows.proofs.WeightLaws.{length_values, value_read, values_more}
use Rattle.excesses.specs.Slots.{slot_from}
use Rattle.excesses.proofs.SumLaws.{back}
use Rattle.offers.specs.Own.{movable, offered_slot}
use Rattle.offers.proofs.StepLaws.{can_is, count_turn, count_room, one_small, slot_is}
use Rattle.offer_rows.proofs.row.offer_window.Goals as goal

pub loop-k-init : goal.loop-k-init
loop-k-init g c = (omega arith, refl, written_none)

pub overflow_add-seen : goal.overflow_add-seen
overflow_add-seen g c =
    let a = c.args in
    let t = movable g.W.Weight.STORE.limit (to_z w64 (of_z w64 a.e)) (slot_from (g.W.Weight.values a.weights.now) a.a) in
    record { fits = omega (arith, count_room t c.loop-k.k (length a.row.now) c.loop-k.invariant.1 (omega arith), one_small c.can_go-can.result, c.from-seen.ensures) }

pub loop-k-preserved : goal.loop-k-preserved
loop-k-preserved g c =
    let a = c.args in
    let k = c.loop-k.k in
    let limit = g.W.Weight.STORE.limit in
    let each = g.met.W.Weight.each in
    let e = to_z w64 (of_z w64 a.e) in
    let w = slot_from (g.W.Weight.values a.weights.now) a.a in
    let read = back c.number-w.type_inv ∙ c.number-w.ensures.answer ∙ value_read each a.weights.now (a.a + k) c.index-weights-a.result (pos 0) c.index-weights-a.is (omega arith) in
    let step = back c.way-s.type_inv ∙ c.way-s.ensures.answer in
    let can = can_is limit e w k (c.can_go-can.ensures.answer ∙ rw c.STORE.ensures refl) read step in
    let found = slot_is limit e w a.n k (back c.slot.type_inv ∙ c.slot.ensures.answer) can c.loop-k.invariant.1 c.unsigned_abs-asked.ensures.value read step in (
      omega arith,
      count_turn (movable limit e w) k c.from-seen.ensures c.loop-k.invariant.1 can,
      values_more each c.loop-k.invariant.2 (omega arith) (c.from_number.ensures ∙ found),
    )

pub returns : goal.returns
returns g c =
    let a = c.args in
    let row = length_values g.met.W.Weight.each a.row.now in
    let all : c.loop-k.k ≡ length a.row.now = omega arith in
    let f = offered_slot g.W.Weight.STORE.limit (to_z w64 (of_z w64 a.e)) (slot_from (g.W.Weight.values a.weights.now) a.a) a.n in
    record { written = rw (← to_z-of_z c.ranges.e) (c.loop-k.invariant.2.is ∙ rw (all, ← row) (front_whole f (g.W.Weight.values a.row.now))) }
