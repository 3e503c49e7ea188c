-- `scan::all_zero`: the goals that the check leaves; the argument stands in Invariants.antt. Assumes nothing.
use mathlib.Core.Path.{sym, subst}
use Prim.Native.Nat.{ℕ}
use native.Mathlib.Omega.{arith}
use borrow.Author.Count.{below_more}
use lib.Dec.{T}
use lib.ListN.{get_or}
use lib.Ieee.{Float, binary32, nan}
use Rattle.finite_f32.proofs.Lanes.{times_flag, times_zero, times_back, flag_zero, zero_finite}
use Rattle.finite_f32.specs.Scan.{is_zero_value, flag}
use Rattle.finite_f32.proofs.scan.all_zero.Goals as goal

pub loop-lane-preserved : goal.loop-lane-preserved
loop-lane-preserved c =
    let v = get_or c.args.zz c.loop-lane.lane-index nan in
    let e = c.zero_step-z.ensures.value in
    let f : T (flag v) = c.requires c.loop-lane.lane-index (omega arith) in (
      subst (λ (z : Float). T (flag z)) (sym e) (times_flag binary32 c.loop-lane.z v c.loop-lane.invariant.0),
      (λ h.
          let b = times_back binary32 c.loop-lane.z v c.loop-lane.invariant.0 (subst (λ (z : Float). T (is_zero_value z)) e h) in
          below_more (λ (x : ℕ). T (is_zero_value (get_or c.args.zz x nan))) c.loop-lane.lane-index (c.loop-lane.invariant.1 b.0) (flag_zero v f b.1)),
      (λ h. subst (λ (z : Float). T (is_zero_value z)) (sym e) (times_zero binary32 c.loop-lane.z v (c.loop-lane.invariant.2 (λ x k. h x (omega arith))) (zero_finite v (h c.loop-lane.lane-index (omega arith))))),
    )
