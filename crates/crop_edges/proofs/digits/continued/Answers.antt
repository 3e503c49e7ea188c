-- `digits::continued`: the goals that the check leaves; the argument stands in Invariants.antt. Assumes nothing.
use Rattle.std.proofs.Common.{◌≡◌, refl, arith, rules}
use Rattle.lists.proofs.TurnLaws.{turns_more}
use Rattle.numerals.specs.Digits.{numeral, behind}
use Rattle.numerals.proofs.DigitLaws.{numeral_room}
use Rattle.crop_edges.proofs.digits.continued.Goals as goal

pub loop-k-init : goal.loop-k-init
unfolding numeral
loop-k-init c = (omega arith, refl)

pub overflow_mul-sum : goal.overflow_mul-sum
overflow_mul-sum c =
    let a = c.args in
    let s = c.loop-k in
    let r = numeral_room a.base a.text.now a.a a.v (search rules) a.n s.k (search rules) (search rules) in
    record { fits = rw s.invariant.1 (omega arith) }

pub overflow_add-sum : goal.overflow_add-sum
overflow_add-sum c =
    let a = c.args in
    let s = c.loop-k in
    let r = numeral_room a.base a.text.now a.a a.v (search rules) a.n s.k (search rules) (search rules) in
    record { fits = rw (s.invariant.1, c.figure.ensures.answer) (omega arith) }

pub loop-k-preserved : goal.loop-k-preserved
unfolding numeral
loop-k-preserved c =
    let a = c.args in
    let s = c.loop-k in
    (search rules, rw (s.invariant.1, c.figure.ensures.answer) (turns_more (behind a.base a.text.now a.a) a.v s.k))

pub returns : goal.returns
returns c =
    let all : c.loop-k.k ≡ c.args.n = omega arith in
    record { answer = rw (← all) c.loop-k.invariant.1 }
