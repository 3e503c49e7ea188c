-- `digits::bounded`: the goals that the check leaves; the argument stands in Invariants.antt. Assumes nothing.
use mathlib.Core.Path.{◌≡◌, refl, sym, ◌∙◌}
use Prim.Native.Nat.{◌-◌, ◌+◌, ◌*◌, ◌≤◌}
use native.Mathlib.Nat.{lt_of_lt_of_le}
use native.Mathlib.Omega.{arith}
use borrow.Author.Rules.{rules}
use borrow.Author.Tests.{lt-ltb, le-ltb, ltb-true, ltb-false}
use Rattle.numerals.specs.Digits.{numeral}
use Rattle.numerals.proofs.DigitLaws.{numeral_more, numeral_grows}
use Rattle.numerals.proofs.digits.bounded.Goals as goal

pub loop-k-init : goal.loop-k-init
unfolding numeral
loop-k-init c = (omega arith, refl, omega arith)

pub returns-then-passes : goal.returns-then-passes
returns-then-passes c =
    let next : c.loop-k.sum * c.args.base + c.figure-d.result ≡ numeral c.args.base c.args.text.now c.args.a 0 (c.loop-k.k + 1) = rw (c.loop-k.invariant.1, c.figure-d.ensures.answer, c.byte_at.ensures.answer) (numeral_more c.args.base c.args.text.now c.args.a 0 c.requires c.loop-k.k) in
    let a = c.args in
    let k = c.loop-k.k in
    let more : k + 1 + (a.n - (k + 1)) ≡ a.n = omega arith in
    let past = ltb-true a.most (c.loop-k.sum * a.base + c.figure-d.result) (sym c.passes.ensures.answer ∙ c.if-passes.true) in
    let grown = rw more at (numeral_grows a.base a.text.now a.a 0 c.requires (k + 1) (a.n - (k + 1))) in
    record { answer = rw (lt-ltb a.most (numeral a.base a.text.now a.a 0 a.n) (lt_of_lt_of_le past (rw next grown))) }

pub overflow_mul-sum : goal.overflow_mul-sum
overflow_mul-sum c =
    let within : c.loop-k.sum * c.args.base + c.figure-d.result ≤ c.args.most = let a = c.args in ltb-false a.most (c.loop-k.sum * a.base + c.figure-d.result) (sym c.passes.ensures.answer ∙ c.if-passes.false) in
    record { fits = omega (arith, within) }

pub overflow_add-sum : goal.overflow_add-sum
overflow_add-sum c =
    let within : c.loop-k.sum * c.args.base + c.figure-d.result ≤ c.args.most = let a = c.args in ltb-false a.most (c.loop-k.sum * a.base + c.figure-d.result) (sym c.passes.ensures.answer ∙ c.if-passes.false) in
    record { fits = omega (arith, within) }

pub loop-k-preserved : goal.loop-k-preserved
loop-k-preserved c =
    let next : c.loop-k.sum * c.args.base + c.figure-d.result ≡ numeral c.args.base c.args.text.now c.args.a 0 (c.loop-k.k + 1) = rw (c.loop-k.invariant.1, c.figure-d.ensures.answer, c.byte_at.ensures.answer) (numeral_more c.args.base c.args.text.now c.args.a 0 c.requires c.loop-k.k) in
    let within : c.loop-k.sum * c.args.base + c.figure-d.result ≤ c.args.most = let a = c.args in ltb-false a.most (c.loop-k.sum * a.base + c.figure-d.result) (sym c.passes.ensures.answer ∙ c.if-passes.false) in
    (search rules, next, within)

pub returns : goal.returns
returns c =
    let a = c.args in
    let all : c.loop-k.k ≡ a.n = omega arith in
    record { answer = rw (← all, ← c.loop-k.invariant.1, le-ltb a.most c.loop-k.sum c.loop-k.invariant.2) }
