-- `serving::some_leaves`: the goals that the check leaves; the argument stands in Invariants.antt. Assumes nothing.
use Rattle.std.proofs.Common.{◌≡◌, length, refl, add-one, arith}
use Rattle.weight_precision.proofs.serving.some_leaves.Goals as goal

pub loop-k-init : goal.loop-k-init
loop-k-init c = (omega arith, refl)

pub in_use-requires : goal.in_use-requires
in_use-requires c = record { fact_1 = c.requires.fact_3; fact_2 = omega (arith, c.requires.fact_4) }

pub loop-k-preserved : goal.loop-k-preserved
loop-k-preserved c = (omega arith, rw (add-one, c.loop-k.invariant.1, c.in_use.ensures, c.holds.ensures, c.scaled.ensures) refl)

pub returns : goal.returns
returns c =
    let all : c.loop-k.k ≡ length c.args.weights.now = omega arith in
    rw (c.loop-k.invariant.1, all) refl
