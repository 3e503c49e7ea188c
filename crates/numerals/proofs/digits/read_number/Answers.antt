-- `digits::read_number` meets its contract: the tests are those of the definition; base 0 has no digits. Assumes nothing.
use mathlib.Core.Path.{◌≡◌, ap}
use mathlib.Core.Bool.{false, not}
use mathlib.Core.List.{List}
use Prim.Native.Nat.{ℕ, ◌+◌, ◌<◌}
use lib.ListN.{get_or}
use native.Mathlib.Omega.{arith}
use borrow.Author.Rules.{rules}
use borrow.Author.Tests.{eq-eqb, ne_eqb, le-leb}
use Rattle.numerals.specs.Digits.{digit_of, alien, digits, number_of}
use Rattle.numerals.proofs.DigitLaws.{any_some}
use Rattle.numerals.proofs.digits.read_number.Goals as goal

none : (base : ℕ) (text : List ℕ) (a n : ℕ) → base ≡ 0 → 0 < n → digits base text a n ≡ false
unfolding digits
none base text a n zero some = rw zero (ap not (any_some (alien 0 text a) n 0 some (le-leb 0 (digit_of (get_or text (a + 0) 0)) (omega arith))))

pub returns-then-n-eq0 : goal.returns-then-n-eq0
unfolding number_of
returns-then-n-eq0 c = record { answer = rw (eq-eqb _ 0 c.if-n-eq0.true) }

pub returns-then-not-all_digits : goal.returns-then-not-all_digits
unfolding number_of
returns-then-not-all_digits c = record { answer = rw (ne_eqb _ 0 c.if-n-eq0.false, ← c.all_digits.ensures.answer, c.if-not-all_digits.true) }

pub returns-then-base-eq0 : goal.returns-then-base-eq0
unfolding number_of
returns-then-base-eq0 c =
    let a = c.args in
    record { answer = rw (ne_eqb _ 0 c.if-n-eq0.false, none a.base a.text.now a.a a.n c.if-base-eq0.true (search rules)) }

pub returns : goal.returns
unfolding number_of
returns c = record { answer = rw (ne_eqb _ 0 c.if-n-eq0.false, ← c.all_digits.ensures.answer, c.if-not-all_digits.false) c.bounded.ensures.answer }
