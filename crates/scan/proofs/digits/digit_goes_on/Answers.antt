-- `digit_goes_on` by its tests: no digit; after some digits; after a 0, where none may come; and first of all, where a 0 is the number 0. Assumes nothing.
use borrow.Author.Rules.{rules}
use Rattle.scan.proofs.DigitLaws.{after_some, after_zero, first_zero, first_other}
use Rattle.scan.proofs.NumberLaws.{goes_high}
use mathlib.Core.Path.{refl}
use native.Mathlib.Omega.{arith}
use Rattle.scan.proofs.digits.digit_goes_on.Goals as goal

pub overflow_mul-n : goal.overflow_mul-n
overflow_mul-n c =
    let pre = c.requires in
    let args = c.args in
    let h = goes_high args.low args.high args.count args.n pre.2 in
    record { fits = omega arith }

pub overflow_add-n : goal.overflow_add-n
overflow_add-n c =
    let pre = c.requires in
    let args = c.args in
    let h = goes_high args.low args.high args.count args.n pre.2 in
    record { fits = omega arith }

pub goes_on-requires : goal.goes_on-requires
goes_on-requires c =
    let pre = c.requires in
    let args = c.args in
    let h = goes_high args.low args.high args.count args.n pre.2 in
    omega arith

pub returns-then-n-gt0 : goal.returns-then-n-gt0
returns-then-n-gt0 c =
    let args = c.args in
    let h = goes_high args.low args.high args.count args.n c.requires.2 in
    record { answer = after_some args.low args.high args.count args.n _ args.b c.goes_on.result (omega arith) (search rules) c.requires.2 h (omega arith) (omega arith) c.goes_on.ensures.answer }

pub returns-then-count-gt0 : goal.returns-then-count-gt0
returns-then-count-gt0 c =
    let args = c.args in
    record { answer = after_zero args.low args.high args.count args.n args.b (omega arith) (omega arith) (search rules) }

pub returns-then-d-eq0 : goal.returns-then-d-eq0
returns-then-d-eq0 c =
    let args = c.args in
    record { answer = first_zero args.low args.high args.count args.n _ args.b _ refl (omega arith) (omega arith) c.if-d-eq0.true (omega arith) }

pub returns : goal.returns
returns c =
    let args = c.args in
    record { answer = first_other args.low args.high args.count args.n _ args.b c.goes_on-2.result (omega arith) (omega arith) (omega arith) (omega arith) c.goes_on-2.ensures.answer }
