-- `sums::power` meets its contract: 2^p is at most 2^45, so the shift drops no bit. Assumes nothing.
use mathlib.Core.Path.{◌≡◌, ◌∙◌}
use Prim.Native.Nat.{ℕ, ◌^◌, ◌≤◌, ◌*◌, ◌%◌}
use native.Mathlib.Nat.{pow-le-pow_right, mod-eq_of_lt}
use native.Mathlib.Omega.{arith}
use mir.Facts.{to_z_pos}
use mir.Syntax.{w64}
use Rattle.excesses.proofs.sums.power.Goals as goal

pub returns : goal.returns
returns c =
    let n : ℕ = 2 ^ c.args.p in
    let h : n ≤ 2 ^ 45 = pow-le-pow_right {n = 2} (omega arith) c.requires in
    let e : (1 * n) % 18446744073709551616 ≡ n = mod-eq_of_lt (omega arith) ∙ omega arith in
    record { answer = rw e (to_z_pos w64 {n = n} (omega arith)) }
