-- `own::movables`: the goals that the check leaves; the argument stands in Invariants.antt. Assumes nothing.
use mathlib.Core.Path.{◌∙◌}
use Prim.Native.Nat.{◌+◌, ◌-◌}
use native.Mathlib.Omega.{arith}
use lib.IntN.{pos}
use mir.Syntax.{w64}
use mir.Val.{to_z, of_z}
use Rattle.windows.proofs.WeightLaws.{value_in}
use Rattle.excesses.specs.Slots.{slot_from}
use Rattle.excesses.proofs.SumLaws.{back}
use Rattle.offers.specs.Own.{movable}
use Rattle.offers.proofs.StepLaws.{can_is, count_turn, count_room, one_small}
use Rattle.offers.proofs.own.movables.Goals as goal

pub overflow_add-c : goal.overflow_add-c
overflow_add-c g c =
    let a = c.args in
    let t = movable a.limit (to_z w64 (of_z w64 a.e)) (slot_from (g.W.Weight.values a.weights.now) a.a) in
    record { fits = omega (arith, count_room t c.loop-weight.weight-index a.n c.loop-weight.invariant.1 (omega arith), one_small c.can_go.result, c.from-c.ensures, c.ranges.n.fits) }

pub loop-weight-preserved : goal.loop-weight-preserved
loop-weight-preserved g c =
    let a = c.args in
    let k = c.loop-weight.weight-index in
    let limit = a.limit in
    let e = to_z w64 (of_z w64 a.e) in
    let w = slot_from (g.W.Weight.values a.weights.now) a.a in
    let read = back c.number.type_inv ∙ c.number.ensures.answer ∙ value_in g.met.W.Weight.each a.weights.now a.a (a.a + a.n - a.a) k c.weight-item.result (pos 0) c.weight-item.is c.loop-weight-test.true in
    let can = can_is limit e w k c.can_go.ensures.answer read (back c.way-s.type_inv ∙ c.way-s.ensures.answer) in
    (omega arith, count_turn (movable limit e w) k c.from-c.ensures c.loop-weight.invariant.1 can)
