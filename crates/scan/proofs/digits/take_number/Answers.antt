-- `digits::take_number`: the goals that the check leaves; the argument stands in Invariants.antt. Assumes nothing.
use mathlib.Core.Bool.{not}
use mathlib.Core.Path.{◌≡◌, sym, ap, ◌∙◌}
use Prim.Native.Nat.{◌-◌}
use lib.ListN.{length, get_or}
use Rattle.scan.proofs.TakeLaws.{reading_more, reading_found, reading_stopped, reading_ended, not_both, told_yes, told_no}
use Rattle.scan.proofs.NumberLaws.{digits_none, goes_first, goes_high}
use Rattle.scan.specs.Number.{NextDigit}
use borrow.Author.Tests.{ltb-true, leb-true}
use Rattle.lists.proofs.BoolLaws.{and_left, and_right}
use native.Mathlib.Nat.{le_refl}
use lib.Dec.{ltb, leb}
use borrow.Author.Rules.{rules}
use native.Mathlib.Omega.{arith}
use Rattle.scan.proofs.digits.take_number.Goals as goal

pub loop-p-init : goal.loop-p-init
loop-p-init c =
    let args = c.args in
    let pre = c.requires in
    let none : args.at - args.at ≡ 0 = omega arith in
    record {
      from = le_refl args.at;
      within = pre.3;
      digits = rw none (digits_none _ _);
      goes = rw none (goes_first args.low args.high pre.0 (omega arith));
    }

pub returns-then-at-p : goal.returns-then-at-p
returns-then-at-p c =
    let args = c.args in
    let at = args.at in
    let p = c.loop-p.p in
    let n = c.loop-p.n in
    let low = args.low in
    record {
      answer = reading_found _ _ _ _ _ _ _ c.loop-p.invariant (omega arith) (search rules) c.if-b-end.true
          (ltb-true at p (and_left (ltb at p) (leb low n) c.if-at-p.true)) (leb-true low n (and_right (ltb at p) (leb low n) c.if-at-p.true));
    }

pub returns-then-b-end : goal.returns-then-b-end
returns-then-b-end c =
    let args = c.args in
    let pre = c.requires in
    let p = c.loop-p.p in
    record {
      answer = reading_stopped _ _ _ _ _ _ _ c.loop-p.invariant (omega arith) (search rules) (λ e. not_both args.at p args.low c.loop-p.n c.if-at-p.false)
          (λ next. pre.2 next.d next.small (sym next.is ∙ c.if-b-end.true));
    }

pub digit_goes_on-requires : goal.digit_goes_on-requires
digit_goes_on-requires c =
    let pre = c.requires in
    (pre.0, pre.1, c.loop-p.invariant.goes)

pub returns-then-not-digit_goes_on : goal.returns-then-not-digit_goes_on
returns-then-not-digit_goes_on c =
    let call = c.digit_goes_on in
    record { answer = reading_stopped _ _ _ _ _ _ _ c.loop-p.invariant (omega arith) (search rules) (λ e. absurd (c.if-b-end.false e)) (told_no _ call.result call.ensures.answer (ap not c.if-not-digit_goes_on.true)) }

pub overflow_mul-n : goal.overflow_mul-n
overflow_mul-n c =
    let args = c.args in
    let pre = c.requires in
    let high = goes_high args.low args.high (c.loop-p.p - args.at) c.loop-p.n c.loop-p.invariant.goes in
    let call = c.digit_goes_on in
    let next : NextDigit args.low args.high (c.loop-p.p - args.at) c.loop-p.n (get_or args.text.now c.loop-p.p 0) = told_yes _ call.result call.ensures.answer (ap not c.if-not-digit_goes_on.false) in
    let is = next.is in
    let small = next.small in
    record { fits = omega arith }

pub overflow_sub-n : goal.overflow_sub-n
overflow_sub-n c =
    let args = c.args in
    let pre = c.requires in
    let high = goes_high args.low args.high (c.loop-p.p - args.at) c.loop-p.n c.loop-p.invariant.goes in
    let call = c.digit_goes_on in
    let next : NextDigit args.low args.high (c.loop-p.p - args.at) c.loop-p.n (get_or args.text.now c.loop-p.p 0) = told_yes _ call.result call.ensures.answer (ap not c.if-not-digit_goes_on.false) in
    let is = next.is in
    let small = next.small in
    omega arith

pub overflow_cast-n : goal.overflow_cast-n
overflow_cast-n c =
    let args = c.args in
    let pre = c.requires in
    let high = goes_high args.low args.high (c.loop-p.p - args.at) c.loop-p.n c.loop-p.invariant.goes in
    let call = c.digit_goes_on in
    let next : NextDigit args.low args.high (c.loop-p.p - args.at) c.loop-p.n (get_or args.text.now c.loop-p.p 0) = told_yes _ call.result call.ensures.answer (ap not c.if-not-digit_goes_on.false) in
    let is = next.is in
    let small = next.small in
    record { fits = omega arith }

pub overflow_add-n : goal.overflow_add-n
overflow_add-n c =
    let args = c.args in
    let pre = c.requires in
    let high = goes_high args.low args.high (c.loop-p.p - args.at) c.loop-p.n c.loop-p.invariant.goes in
    let call = c.digit_goes_on in
    let next : NextDigit args.low args.high (c.loop-p.p - args.at) c.loop-p.n (get_or args.text.now c.loop-p.p 0) = told_yes _ call.result call.ensures.answer (ap not c.if-not-digit_goes_on.false) in
    let is = next.is in
    let small = next.small in
    record { fits = omega arith }

pub loop-p-preserved : goal.loop-p-preserved
loop-p-preserved c =
    let pre = c.requires in
    let call = c.digit_goes_on in
    reading_more _ _ _ _ _ _ _ c.loop-p.invariant pre.2 (search rules) (told_yes _ call.result call.ensures.answer (ap not c.if-not-digit_goes_on.false))

pub returns : goal.returns
returns c =
    let pre = c.requires in
    let last : c.loop-p.p ≡ length c.args.text.now = omega arith in
    record { answer = rw (← last) (reading_ended _ _ _ _ _ _ _ c.loop-p.invariant (omega arith) (omega arith)) }
