-- `decimal::digit_count`: the goals that the check leaves; the argument stands in Invariants.antt. Assumes nothing.
use mathlib.Core.Path.{◌≡◌, refl, ◌∙◌, sym}
use Prim.Native.Nat.{◌-◌, ◌+◌, ◌/◌, ◌^◌}
use native.Mathlib.Nat.{pow-suc, div-div-eq-div-mul}
use native.Mathlib.Numerals.{add-one}
use native.Mathlib.Omega.{arith}
use borrow.Author.Rules.{rules}
use borrow.Author.Tests.{eq-eqb, ne_eqb}
use Rattle.text.specs.Text.{digit_count_value}
use Rattle.lists.proofs.FirstLaws.{first_stop, first_on}
use Rattle.text.proofs.decimal.digit_count.Invariants.{gone}
use Rattle.text.proofs.decimal.digit_count.Goals as goal

pub loop-k-init : goal.loop-k-init
unfolding gone digit_count_value
loop-k-init c = (search rules, refl, refl)

pub returns-then-m-eq0 : goal.returns-then-m-eq0
unfolding gone
returns-then-m-eq0 c =
    let n = c.args.n in
    let zero : n / 10 ^ c.loop-k.k ≡ 0 = sym c.loop-k.invariant.1 ∙ c.if-m-eq0.true in
    record { answer = sym (c.loop-k.invariant.2 ∙ first_stop (gone n) c.loop-k.k (20 - c.loop-k.k) (omega arith) (eq-eqb (n / 10 ^ c.loop-k.k) 0 zero)) }

pub loop-k-preserved : goal.loop-k-preserved
unfolding gone
loop-k-preserved c =
    let n = c.args.n in
    let more : 20 - c.loop-k.k - 1 ≡ 20 - (c.loop-k.k + 1) = omega arith in (
      search rules,
      rw (c.loop-k.invariant.1, div-div-eq-div-mul, add-one, pow-suc),
      c.loop-k.invariant.2 ∙ first_on (gone n) c.loop-k.k (20 - c.loop-k.k) (omega arith) (ne_eqb (n / 10 ^ c.loop-k.k) 0 (λ z. c.if-m-eq0.false (c.loop-k.invariant.1 ∙ z))) ∙ rw more,
    )

pub returns : goal.returns
unfolding gone
returns c =
    let last : c.loop-k.k ≡ 20 = omega arith in
    record { answer = sym (rw last at c.loop-k.invariant.2) }
