-- `finding::precision`: the goals that the check leaves; the argument stands in Invariants.antt. Assumes nothing.
use Rattle.std.proofs.Common.{◌≡◌, ◌+◌, ◌-◌, sym, refl, ◌∙◌, arith}
use native.Mathlib.Nat.{sub-zero}
use Rattle.lists.proofs.FirstLaws.{first_stop, first_on}
use Rattle.weight_precision.specs.Precision.{precision, reaches}
use Rattle.weight_precision.proofs.finding.precision.Goals as goal

pub loop-p-init : goal.loop-p-init
unfolding precision
loop-p-init c = (c.requires.fact_1, rw (c.largest-w.ensures, sub-zero) refl)

pub returns-then-reach : goal.returns-then-reach
returns-then-reach c =
    let test = reaches c.args.store.limit c.largest-w.result in
    sym (c.loop-p.invariant.1 ∙ first_stop test c.loop-p.p (c.args.store.bits - 1 - c.loop-p.p) (omega arith) (sym c.reach.ensures ∙ c.if-reach.true))

pub loop-p-preserved : goal.loop-p-preserved
loop-p-preserved c =
    let test = reaches c.args.store.limit c.largest-w.result in
    let left : c.args.store.bits - 1 - c.loop-p.p - 1 ≡ c.args.store.bits - 1 - (c.loop-p.p + 1) = omega arith in
    (omega arith, c.loop-p.invariant.1 ∙ first_on test c.loop-p.p (c.args.store.bits - 1 - c.loop-p.p) (omega arith) (sym c.reach.ensures ∙ c.if-reach.false) ∙ rw left refl)

pub returns : goal.returns
returns c =
    let all : c.loop-p.p ≡ c.args.store.bits - 1 = omega arith in
    let none : c.args.store.bits - 1 - c.loop-p.p ≡ 0 = omega arith in
    sym (c.loop-p.invariant.1 ∙ rw none all)
