-- `serving::some_not_finite`: the goals that the check leaves; the argument stands in Invariants.antt. Assumes nothing.
use Rattle.std.proofs.Common.{◌≡◌, length, refl, add-one, arith}
use Rattle.weight_precision.proofs.serving.some_not_finite.Goals as goal

pub loop-weight-init : goal.loop-weight-init
loop-weight-init c = (omega arith, refl)

pub loop-weight-preserved : goal.loop-weight-preserved
loop-weight-preserved c = (omega arith, rw (add-one, c.loop-weight.invariant.1, c.finite.ensures.answer))

pub returns : goal.returns
returns c =
    let all : c.loop-weight.weight-index ≡ length c.args.weights.now = omega arith in
    rw (← all) c.loop-weight.invariant.1
