-- `scan::zeros`: the goals that the check leaves; the argument stands in Invariants.antt. Assumes nothing.
use Prim.Native.Nat.{◌*◌, ◌+◌, zero-le}
use Rattle.finite_f32.proofs.Lanes.{lane_flag, lane_back, lane_to, lane_from}
use Rattle.finite_f32.proofs.scan.zeros.Goals as goal

pub loop-q-preserved : goal.loop-q-preserved
loop-q-preserved c =
    let a = c.args in
    let r = c.zero_steps-m.result in (
      c.zero_steps-m.ensures.result_len,
      lane_flag 16 c.loop-q.zz r a.src.now (a.at + c.loop-q.q * 16) c.zero_steps-m.ensures.made c.loop-q.invariant.1,
      (λ z. c.loop-q.invariant.2 (λ t k. (lane_back 16 c.loop-q.zz r a.src.now (a.at + c.loop-q.q * 16) c.zero_steps-m.ensures.made c.loop-q.invariant.1 z t k).0)),
      (λ z t p h. lane_to c.loop-q.zz r a.src.now a.at c.loop-q.q c.zero_steps-m.ensures.made c.loop-q.invariant.1 (λ y x k. c.loop-q.invariant.3 y x zero-le k) z t h),
      (λ z f. lane_from c.loop-q.zz r a.src.now a.at c.loop-q.q c.zero_steps-m.ensures.made c.loop-q.invariant.1 (λ g. c.loop-q.invariant.4 z (λ t p h. g t h)) (λ x k. f x zero-le k)),
    )
