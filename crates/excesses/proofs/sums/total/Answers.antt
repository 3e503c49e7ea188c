-- `sums::total`: the goals that the check leaves; the argument stands in Invariants.antt. Assumes nothing.
use mathlib.Core.Path.{◌≡◌, ◌∙◌, refl}
use Prim.Native.Nat.{◌^◌, ◌≤◌, ◌-◌, ◌+◌}
use native.Mathlib.Omega.{arith}
use lib.IntN.{nat_abs, ◌+ℤ◌, pos}
use mir.Syntax.{w64}
use mir.Val.{to_z, of_z}
use Rattle.windows.proofs.WeightLaws.{value_in, small_weight}
use Rattle.excesses.specs.Slots.{slot_from}
use Rattle.excesses.proofs.SumLaws.{back, sum_none, sum_more, size_more}
use Rattle.excesses.proofs.sums.total.Goals as goal

pub loop-weight-init : goal.loop-weight-init
loop-weight-init g c = (omega arith, sum_none (slot_from (g.W.Weight.values c.args.weights.now) c.args.a), omega arith)

pub add-t-requires : goal.add-t-requires
add-t-requires g c =
    (omega (arith, c.loop-weight.invariant.2, c.requires.0), rw (back c.number.type_inv) (small_weight c.number.result g.W.Weight.STORE.limit c.number.ensures.small g.met.W.Weight.limit_small))

pub loop-weight-preserved : goal.loop-weight-preserved
loop-weight-preserved g c =
    let a = c.args in
    let k = c.loop-weight.weight-index in
    let f = slot_from (g.W.Weight.values a.weights.now) a.a in
    let read : c.number.result ≡ f k = c.number.ensures.answer ∙ value_in g.met.W.Weight.each a.weights.now a.a (a.a + a.n - a.a) k c.weight-item.result (pos 0) c.weight-item.is c.loop-weight-test.true in
    let r : to_z w64 (of_z w64 c.add-t.result) ≡ to_z w64 c.loop-weight.t-bits +ℤ f k = back c.add-t.type_inv ∙ c.add-t.ensures.answer ∙ rw (back c.number.type_inv, read) refl in
    let small : nat_abs (f k) ≤ 2 ^ 31 = rw read at (small_weight c.number.result g.W.Weight.STORE.limit c.number.ensures.small g.met.W.Weight.limit_small) in
    (omega arith, r ∙ rw c.loop-weight.invariant.1 (sum_more f k), rw r (size_more (to_z w64 c.loop-weight.t-bits) (f k) k c.loop-weight.invariant.2 small))
