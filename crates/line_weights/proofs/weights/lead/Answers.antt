-- `weights::lead`: the goals that the check leaves; the argument stands in Invariants.antt. Assumes nothing.
use Prim.Native.Nat.{◌-◌, ◌+◌}
use mathlib.Core.Path.{ap, ◌≡◌, refl, sym, ◌∙◌}
use mathlib.Core.Bool.{not, true, false}
use Rattle.lists.proofs.FirstLaws.{first_stop, first_on}
use Rattle.line_weights.specs.Weights.{lead_of, weighs, first_weight}
use Rattle.line_weights.proofs.WeightLaws.{first_weight_fact}
use native.Mathlib.Nat.{add-zero}
use native.Mathlib.Omega.{arith}
use Rattle.line_weights.proofs.weights.lead.Goals as goal

pub loop-x-init : goal.loop-x-init
unfolding lead_of
loop-x-init c = (omega arith, refl)

pub returns-then-not-w : goal.returns-then-not-w
returns-then-not-w c =
    let args = c.args in
    let here : weighs args.f args.c args.recip c.loop-x.x ≡ true = rw (← c.line_weight-w.ensures.answer) (ap not c.if-not-w.true) in
    record {
      answer = (
        sym (c.loop-x.invariant.1 ∙ first_stop (weighs args.f args.c args.recip) c.loop-x.x (args.stop.0 - c.loop-x.x) (omega arith) here),
        c.line_weight-w.ensures.answer ∙ rw (first_weight_fact args.f args.c args.recip c.loop-x.x (args.stop.0 - c.loop-x.x) (omega arith), add-zero),
      );
    }

pub loop-x-preserved : goal.loop-x-preserved
loop-x-preserved c =
    let args = c.args in
    let here : weighs args.f args.c args.recip c.loop-x.x ≡ false = rw (← c.line_weight-w.ensures.answer) (ap not c.if-not-w.false) in
    let left : args.stop.0 - c.loop-x.x - 1 ≡ args.stop.0 - (c.loop-x.x + 1) = omega arith in
    (omega arith, c.loop-x.invariant.1 ∙ first_on (weighs args.f args.c args.recip) c.loop-x.x (args.stop.0 - c.loop-x.x) (omega arith) here ∙ rw left)

pub returns : goal.returns
unfolding first_weight
returns c =
    let args = c.args in
    let none : args.stop.0 - c.loop-x.x ≡ 0 = omega arith in
    let end : c.max.result ≡ c.loop-x.x = omega (arith, c.max.ensures) in
    rw end (record { answer = (sym (c.loop-x.invariant.1 ∙ rw none), rw none) })
