-- 2^(p-1) is at most 2^20, so the shift drops no bit. Assumes nothing.
use mathlib.Core.Path.{◌∙◌}
use Prim.Native.Nat.{ℕ, ◌^◌, ◌-◌, ◌≤◌}
use native.Mathlib.Nat.{pow-le-pow_right, mod-eq_of_lt}
use native.Mathlib.Omega.{arith}
use Rattle.vertical_u8.proofs.judge.half.Goals as goal

pub returns : goal.returns
returns c =
    let n : ℕ = 2 ^ (c.args.p - 1) in
    let h : n ≤ 2 ^ 20 = let l : c.args.p - 1 ≤ 20 = omega arith in pow-le-pow_right (omega arith) l in
    mod-eq_of_lt (omega arith) ∙ omega arith
