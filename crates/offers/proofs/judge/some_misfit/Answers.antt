-- `judge::some_misfit`: the goals that the check leaves; the argument stands in Invariants.antt. Assumes nothing.
use mathlib.Core.Path.{◌≡◌, refl, ◌∙◌}
use Prim.Native.Nat.{◌+◌}
use native.Mathlib.Omega.{arith}
use lib.IntN.{pos}
use Rattle.windows.proofs.WeightLaws.{value_read}
use Rattle.excesses.specs.Slots.{slot_from}
use Rattle.excesses.proofs.SumLaws.{back}
use Rattle.excesses.proofs.ExcessLaws.{any_turn}
use Rattle.offers.specs.Repair.{bad_weight}
use Rattle.offers.proofs.StepLaws.{misfit_is}
use Rattle.offers.proofs.judge.some_misfit.Goals as goal

pub loop-k-init : goal.loop-k-init
loop-k-init g c = (omega arith, refl)

pub loop-k-preserved : goal.loop-k-preserved
loop-k-preserved g c =
    let a = c.args in
    let k = c.loop-k.k in
    let each = g.met.W.Weight.each in
    let limit = a.limit in
    let w = slot_from (g.W.Weight.values a.weights.now) a.a in
    let v = slot_from (g.W.Weight.values a.offered.now) a.a in
    let stored = back c.number-w.type_inv ∙ c.number-w.ensures.answer ∙ value_read each a.weights.now (a.a + k) c.index-weights-a.result (pos 0) c.index-weights-a.is (omega arith) in
    let offered = back c.number-v.type_inv ∙ c.number-v.ensures.answer ∙ value_read each a.offered.now (a.a + k) c.index-offered-a.result (pos 0) c.index-offered-a.is (omega arith) in
    let said : c.misfits-bad.result ≡ bad_weight limit w v k = misfit_is limit w v k c.misfits-bad.ensures.answer stored offered in
    (omega arith, any_turn (bad_weight limit w v) k c.loop-k.invariant.1 said)

pub returns : goal.returns
returns g c =
    let all : c.loop-k.k ≡ c.args.n = omega arith in
    record { answer = rw (← all) c.loop-k.invariant.1 }
