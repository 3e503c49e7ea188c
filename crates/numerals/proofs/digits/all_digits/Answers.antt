-- `digits::all_digits`: the goals that the check leaves; the argument stands in Invariants.antt. Assumes nothing.
use mathlib.Core.Path.{◌≡◌, refl, sym, ap, ◌∙◌}
use mathlib.Core.Bool.{not}
use Prim.Native.Nat.{◌+◌}
use native.Mathlib.Omega.{arith}
use lib.ListN.{get_or}
use borrow.Author.Rules.{rules}
use borrow.Author.Tests.{le-leb, lt-leb}
use Rattle.lists.proofs.AnyLaws.{any_on}
use Rattle.numerals.specs.Digits.{digit_of, alien, digits}
use Rattle.numerals.proofs.DigitLaws.{any_some}
use Rattle.numerals.proofs.digits.all_digits.Goals as goal

pub loop-k-init : goal.loop-k-init
loop-k-init c = (omega arith, refl)

pub returns-then-base-digit : goal.returns-then-base-digit
unfolding digits
returns-then-base-digit c =
    let seen : c.digit.result ≡ digit_of (get_or c.args.text.now (c.args.a + c.loop-k.k) 0) = c.digit.ensures.answer ∙ ap digit_of c.byte_at.ensures.answer in
    let a = c.args in
    record { answer = ap not (sym (any_some (alien a.base a.text.now a.a) a.n c.loop-k.k (search rules) (rw (sym seen) (le-leb _ _ c.if-base-digit.true)))) }

pub loop-k-preserved : goal.loop-k-preserved
loop-k-preserved c =
    let seen : c.digit.result ≡ digit_of (get_or c.args.text.now (c.args.a + c.loop-k.k) 0) = c.digit.ensures.answer ∙ ap digit_of c.byte_at.ensures.answer in
    let a = c.args in
    (search rules, any_on (alien a.base a.text.now a.a) c.loop-k.k c.loop-k.invariant.1 (rw (sym seen) (lt-leb _ _ c.if-base-digit.false)))

pub returns : goal.returns
unfolding digits
returns c =
    let a = c.args in
    let all : c.loop-k.k ≡ a.n = omega arith in
    record { answer = rw (← all, c.loop-k.invariant.1) }
