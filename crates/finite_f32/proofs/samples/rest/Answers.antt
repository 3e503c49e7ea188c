-- `samples::rest`: the goals that the check leaves; the argument stands in Invariants.antt. Assumes nothing.
use mathlib.Core.Path.{sym, subst}
use Prim.Native.Nat.{ℕ, ◌^◌, ◌+◌}
use native.Mathlib.Omega.{arith}
use lib.Dec.{T}
use lib.ListN.{get_or}
use lib.Ieee.{Float, binary32, nan}
use lib.Ieee.Scale.{finite}
use Rattle.floats.specs.Within.{AtMost}
use Rattle.lists.proofs.StoreLaws.{from_more}
use Rattle.finite_f32.proofs.Lanes.{times_flag, times_zero, times_back, small_finite}
use Rattle.finite_f32.specs.Scan.{is_zero_value, flag}
use Rattle.finite_f32.proofs.samples.rest.Goals as goal

pub loop-x-preserved : goal.loop-x-preserved
loop-x-preserved c =
    let a = c.args in
    let v = get_or a.src.now (a.at + c.loop-x.x) nan in
    let e = c.zero_step-z.ensures.value in
    let b : T (is_zero_value c.zero_step-z.result) → T (is_zero_value c.loop-x.z) × T (finite v) = λ h. times_back binary32 c.loop-x.z v c.loop-x.invariant.0 (subst (λ (z : Float). T (is_zero_value z)) e h) in (
      subst (λ (z : Float). T (flag z)) (sym e) (times_flag binary32 c.loop-x.z v c.loop-x.invariant.0),
      (λ h. c.loop-x.invariant.1 (b h).0),
      (λ h. from_more (λ (t : ℕ). AtMost (get_or a.src.now (a.at + t) nan) (2 ^ 128)) a.from c.loop-x.x (c.loop-x.invariant.2 (b h).0) (small_finite v c.zero_step-z.ensures.t (b h).1)),
      (λ h f. subst (λ (z : Float). T (is_zero_value z)) (sym e) (times_zero binary32 c.loop-x.z v (c.loop-x.invariant.3 h (λ t p k. f t p (omega arith))) (f c.loop-x.x (omega arith) (omega arith)))),
      omega arith,
    )
