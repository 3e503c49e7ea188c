-- `window_excess`: the total is at most 2^44 and 2^precision at most 2^45, so the difference does not wrap. Assumes nothing.
use mathlib.Core.Path.{refl, ◌∙◌}
use Prim.Native.Nat.{◌^◌, ◌≤◌}
use native.Mathlib.Nat.{pow-le-pow_right, lt_of_le_of_lt}
use native.Mathlib.Omega.{arith}
use lib.IntN.{nat_abs}
use Rattle.integers.proofs.Parts.{mag_size}
use Rattle.windows.specs.Set.{excess}
use Rattle.excesses.proofs.SumLaws.{back, sub_fits, sub_is}
use Rattle.excess_scan.proofs.totals.window_excess.Goals as goal

pub overflow_sub-result : goal.overflow_sub-result
overflow_sub-result c =
    let t = c.total-t in
    let h : 2 ^ c.args.precision ≤ 2 ^ 45 = pow-le-pow_right {n = 2} (omega arith) c.requires.precision_bound.0 in
    let small : nat_abs t.result.value ≤ 2 ^ 44 = t.ensures.small in
    let same = back (lt_of_le_of_lt (mag_size t.result.value) (omega arith)) in
    let p = c.power in
    sub_fits {a = t.result.value} same (back p.type_inv ∙ p.ensures.answer) (omega arith) (omega arith)

pub returns : goal.returns
unfolding excess
returns c =
    let t = c.total-t in
    let h : 2 ^ c.args.precision ≤ 2 ^ 45 = pow-le-pow_right {n = 2} (omega arith) c.requires.precision_bound.0 in
    let small : nat_abs t.result.value ≤ 2 ^ 44 = t.ensures.small in
    let same = back (lt_of_le_of_lt (mag_size t.result.value) (omega arith)) in
    let p = c.power in
    record { answer = λ l next f. let told = t.ensures.answer l next f in (sub_is {a = t.result.value} same (back p.type_inv ∙ p.ensures.answer) (omega arith) (omega arith) ∙ rw told.0 refl, told.1) }
