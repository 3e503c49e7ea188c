-- Four times four samples, each time as `lane_back` says. Assumes nothing.
use Rattle.finite_f32.proofs.Lanes.{lane_flag, lane_back, lane_small, small_more}
use Rattle.finite_f32.specs.Scan.{Zeros}
use Rattle.finite_f32.proofs.written.sixteen.Goals as goal

pub returns : goal.returns
returns c =
    let a = c.args in
    let w = c.zero_steps-a in
    let x = c.zero_steps-b in
    let y = c.zero_steps-c in
    let z = c.zero_steps in
    let ys = a.ys in
    let fw = lane_flag 4 a.zz w.result ys 0 w.ensures.made c.requires.1 in
    let fx = lane_flag 4 w.result x.result ys 4 x.ensures.made fw in
    let fy = lane_flag 4 x.result y.result ys 8 y.ensures.made fx in
    let zy : Zeros 4 z.result → Zeros 4 y.result = λ h t k. (lane_back 4 y.result z.result ys 12 z.ensures.made fy h t k).0 in
    let zx : Zeros 4 z.result → Zeros 4 x.result = λ h t k. (lane_back 4 x.result y.result ys 8 y.ensures.made fx (zy h) t k).0 in
    let zw : Zeros 4 z.result → Zeros 4 w.result = λ h t k. (lane_back 4 w.result x.result ys 4 x.ensures.made fw (zx h) t k).0 in
    record { result_len = (z.ensures.result_len, lane_flag 4 y.result z.result ys 12 z.ensures.made fy, (λ h t k. (lane_back 4 a.zz w.result ys 0 w.ensures.made c.requires.1 (zw h) t k).0)); small = (λ h. small_more ys 0 12 4 (small_more ys 0 8 4 (small_more ys 0 4 4 (lane_small 4 a.zz w.result ys 0 w.ensures.made c.requires.1 (zw h)) (lane_small 4 w.result x.result ys 4 x.ensures.made fw (zx h))) (lane_small 4 x.result y.result ys 8 y.ensures.made fx (zy h))) (lane_small 4 y.result z.result ys 12 z.ensures.made fy h)) }
