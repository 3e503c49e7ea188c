-- `sums::total`: the goals that the check leaves; the argument stands in Invariants.antt. Assumes nothing.
use mathlib.Core.Path.{◌≡◌, ◌∙◌, refl}
use Prim.Native.Nat.{◌^◌, ◌<◌, ◌*◌, ◌+◌}
use native.Mathlib.Omega.{arith}
use lib.IntN.{pos, ◌+ℤ◌, ◌*ℤ◌}
use lib.Signed.{mag, nat_abs-le}
use mir.Facts.{to_z-of_z}
use mir.Syntax.{w64}
use mir.Val.{to_z, of_z}
use borrow.Author.Rules.{rules}
use Rattle.excesses.specs.Slots.{slot_from}
use Rattle.vertical.proofs.ReadBack.{back64 as back}
use Rattle.story_text.specs.There.{sample_from}
use Rattle.story_text.proofs.SumSizes.{total_none, total_more, size_more}
use Rattle.story_text.proofs.sums.total.Goals as goal

pub loop-k-init : goal.loop-k-init
loop-k-init c =
    let a = c.args in
    (omega arith, total_none (slot_from a.weights.now a.from) (sample_from a.src.now a.row a.column a.start.0), omega arith)

pub overflow_add-start : goal.overflow_add-start
overflow_add-start c = let there = c.requires.few in search rules

pub sample_at-sample-requires : goal.sample_at-sample-requires
sample_at-sample-requires c =
    omega (arith, c.requires.inside c.loop-k.k c.loop-k-test.true)

pub overflow_add-from : goal.overflow_add-from
overflow_add-from c = let there = c.requires.weights in search rules

pub offset_bounds-weights-from : goal.offset_bounds-weights-from
offset_bounds-weights-from c = let there = c.requires.weights in search rules

pub bounds-weights-from : goal.bounds-weights-from
bounds-weights-from c = omega (arith, c.requires.weights, c.loop-k-test.true)

pub step-t-requires : goal.step-t-requires
step-t-requires c =
    omega (arith, c.loop-k.invariant.2, c.requires.few, c.loop-k-test.true)

pub loop-k-preserved : goal.loop-k-preserved
loop-k-preserved c =
    let a = c.args in
    let w = slot_from a.weights.now a.from in
    let s = sample_from a.src.now a.row a.column a.start.0 in
    let k = c.loop-k.k in
    let narrow : mag (w k) < 2 ^ 31 = c.step-arg-1.given in
    let r : to_z w64 (of_z w64 c.step-t.result) ≡ to_z w64 c.loop-k.t-bits +ℤ w k *ℤ pos (s k) = back c.step-t.type_inv ∙ c.step-t.ensures.answer ∙ rw (to_z-of_z (record { sfits = narrow }), c.sample_at-sample.ensures.answer) refl in (
      omega arith,
      r ∙ rw c.loop-k.invariant.1 (total_more w s k),
      rw r (size_more (to_z w64 c.loop-k.t-bits) (w k) (s k) k c.loop-k.invariant.2 (nat_abs-le (w k) narrow) (c.type_inv.src ((a.start.0 + k) * a.row + a.column)).fits),
    )

pub returns : goal.returns
returns c =
    let e : c.loop-k.k ≡ c.args.size = omega arith in
    record { answer = (c.loop-k.invariant.1 ∙ rw e refl, omega (arith, c.loop-k.invariant.2, c.requires.few)) }
