-- `sums::sum`: the goals that the check leaves; the argument stands in Invariants.antt. Assumes nothing.
use mathlib.Core.Path.{◌≡◌, refl, subst}
use Prim.Native.Nat.{ℕ, ◌^◌, ◌*◌, ◌+◌}
use native.Mathlib.Omega.{arith}
use lib.ListN.{get_or}
use lib.Ieee.{nan}
use Rattle.floats.specs.Within.{AtMost}
use Rattle.lists.proofs.TabLaws.{row_next}
use Rattle.row_f32.proofs.Fast.{bounded_number}
use Rattle.row_f32.proofs.SumLaws.{sum_none, turn}
use Rattle.row_f32.proofs.sums.sum.Goals as goal

pub loop-w-init : goal.loop-w-init
loop-w-init c = let a = c.args in (omega arith, sum_none a.ws.now a.src.now a.at0 a.row)

pub step-acc-requires : goal.step-acc-requires
step-acc-requires c =
    let a = c.args in
    let e : a.at0 + c.loop-w.w-index * a.row + 0 ≡ c.loop-w.at = omega (arith, c.loop-w.invariant.0) in
    bounded_number (get_or a.src.now c.loop-w.at nan) (2 ^ 128) (subst (λ (z : ℕ). AtMost (get_or a.src.now z nan) (2 ^ 128)) e (c.requires.light c.loop-w.w-index 0 c.loop-w-test.true (omega arith)))

pub loop-w-preserved : goal.loop-w-preserved
loop-w-preserved c =
    let a = c.args in (
      omega (arith, row_next (c.loop-w.w-index * a.row) c.loop-w.w-index a.row refl),
      turn a.ws.now a.src.now a.at0 a.row c.loop-w.w-index c.loop-w.at c.step-acc.ensures c.loop-w.invariant.1 c.loop-w.invariant.0,
    )
