-- `count::infinities`: the goals that the check leaves; the argument stands in Invariants.antt. Assumes nothing.
use mathlib.Core.Path.{sym}
use mathlib.Core.Bool.{Bool, true, false, cond}
use Prim.Native.Nat.{◌≤◌}
use native.Mathlib.Numerals.{add-one}
use native.Mathlib.Omega.{arith}
use lib.Ieee.{nan}
use lib.ListN.{get_or}
use Rattle.numbers.specs.Whole.{is_infinite}
use Rattle.vertical.proofs.F32Infinite.{infinities_more, infinities_start}
use Rattle.finite_f32.proofs.count.infinities.Goals as goal

at_most : (b : Bool) → cond b 1 0 ≤ 1
at_most true = omega arith
at_most false = omega arith

pub loop-sample-init : goal.loop-sample-init
loop-sample-init c = (omega arith, infinities_start c.args.out.now)

pub loop-sample-preserved : goal.loop-sample-preserved
loop-sample-preserved c =
    let a = c.args in (
      omega (arith, at_most (is_infinite (get_or a.out.now c.loop-sample.sample-index nan)), c.one-n.ensures),
      rw (add-one c.loop-sample.sample-index, c.loop-sample.invariant.1, c.one-n.ensures) (sym (infinities_more a.out.now c.loop-sample.sample-index (omega arith))),
    )
