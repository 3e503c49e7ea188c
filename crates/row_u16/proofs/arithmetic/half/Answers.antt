-- 2^(p-1) is at most 2^44, so the shift drops no bit. Assumes nothing.
use mathlib.Core.Path.{◌≡◌, ◌∙◌}
use Prim.Native.Nat.{ℕ, ◌^◌, ◌-◌, ◌≤◌, ◌*◌, ◌%◌}
use native.Mathlib.Nat.{pow-le-pow_right, mod-eq_of_lt}
use native.Mathlib.Omega.{arith}
use mir.Syntax.{w64}
use mir.ValLaws.{to_z_pos}
use Rattle.row_u16.proofs.arithmetic.half.Goals as goal

pub returns : goal.returns
returns c =
    let n : ℕ = 2 ^ (c.args.p - 1) in
    let h : n ≤ 2 ^ 44 = let l : c.args.p - 1 ≤ 44 = omega arith in pow-le-pow_right (omega arith) l in
    let e : (1 * n) % 18446744073709551616 ≡ n = mod-eq_of_lt (omega arith) ∙ omega arith in
    record { answer = rw e (to_z_pos w64 n (omega arith)) }
