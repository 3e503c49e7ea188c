-- The proofs of `SumWithinOne` and `FlatUnchanged`: the sum is additive in the samples and three floors stand within 1 of each other; a flat frame's sum is
-- K v, which is nearer to v 2^P than half of 2^P. Over any sample bound M. Assumes nothing.
use mathlib.Core.Path.{◌≡◌}
use Prim.Native.Nat.{ℕ, ◌+◌, ◌-◌, ◌*◌, ◌^◌, ◌≤◌, ◌<◌}
use native.Mathlib.Nat.{add-mul, mul_assoc, mul_comm, mul-le-mul_right}
use native.Mathlib.Omega.{arith}
use lib.IntN.{ℤ, pos, ◌+ℤ◌, ◌*ℤ◌}
use Rattle.integers.specs.Sums.{sum, total, shifted, distance}
use Rattle.integers.proofs.Parts.{plus, minus, pos_parts, add_parts, scale_parts, distance_parts}
use Rattle.integers.proofs.Floors.{halves, floor_is, shifted_add, clipped_pos}
use Rattle.integers.proofs.Sums.{total_add, total_flat}
use Rattle.promises.specs.SumOfFrames.{SumWithinOne}
use Rattle.promises.specs.FlatFrames.{FlatUnchanged}

pub sum_within_one : SumWithinOne
sum_within_one w a b n p h = rw (total_add w a b n) (shifted_add p (total w a n) (total w b n) h)

-- K v is nearer to v 2^P than half of 2^P, so it rounds to v
flat : (K : ℤ) (M P v : ℕ) → 1 ≤ P → 2 * M * distance K (pos (2 ^ P)) < 2 ^ P → v ≤ M → shifted P (K *ℤ pos v) ≡ pos v
unfolding shifted
flat K M P v h near l =
    let m = 2 ^ P in
    let half = 2 ^ (P - 1) in
    let d = distance K (pos m) in
    let e : m ≡ half + half = halves P h in
    let pm = pos_parts m in
    let ph = pos_parts half in
    let pd = distance_parts K (pos m) in
    let ps = scale_parts K v in
    let pz = add_parts (K *ℤ pos v) (pos half) in
    let vd : v * d ≤ M * d = mul-le-mul_right d l in
    let md : 2 * M * d ≡ 2 * (M * d) = mul_assoc 2 M d in
    let up : plus K * v ≤ (m + minus K + d) * v = mul-le-mul_right v (omega arith) in
    let low : (m + minus K) * v ≤ (plus K + d) * v = mul-le-mul_right v (omega arith) in
    let u = simp add-mul at up in
    let w = simp add-mul at low in
    floor_is (K *ℤ pos v +ℤ pos half) m v (omega (arith, mul_comm v d, mul_comm v m)) (omega (arith, mul_comm v d, mul_comm v m))

pub flat_unchanged : FlatUnchanged
flat_unchanged w n M P v h near l = rw (total_flat w v n, flat (sum w n) M P v h near l) (clipped_pos M v l)
