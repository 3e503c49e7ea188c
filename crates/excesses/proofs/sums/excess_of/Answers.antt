-- `sums::excess_of` meets its contract: the total is at most 2^44 and 2^p at most 2^45, so the difference does not wrap. Assumes nothing.
use mathlib.Core.Path.{refl, ◌∙◌}
use Prim.Native.Nat.{◌^◌, ◌≤◌}
use native.Mathlib.Nat.{pow-le-pow_right}
use native.Mathlib.Omega.{arith}
use Rattle.windows.specs.Set.{excess}
use Rattle.excesses.proofs.SumLaws.{back, sub_fits, sub_is}
use Rattle.excesses.proofs.sums.excess_of.Goals as goal

pub overflow_sub-result : goal.overflow_sub-result
overflow_sub-result g c =
    let h : 2 ^ c.args.p ≤ 2 ^ 45 = pow-le-pow_right {n = 2} (omega arith) c.requires.0 in
    sub_fits {a = c.total.result} (back c.total.type_inv) (back c.power.type_inv ∙ c.power.ensures.answer) (omega (arith, c.total.ensures.answer.1)) (omega arith)

pub returns : goal.returns
unfolding excess
returns g c =
    let h : 2 ^ c.args.p ≤ 2 ^ 45 = pow-le-pow_right {n = 2} (omega arith) c.requires.0 in
    record { answer = sub_is {a = c.total.result} (back c.total.type_inv) (back c.power.type_inv ∙ c.power.ensures.answer) (omega (arith, c.total.ensures.answer.1)) (omega arith) ∙ rw c.total.ensures.answer.0 refl }
