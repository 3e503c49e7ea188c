-- `whole::ceil_pattern`: as `floor_pattern`, with the two sizes exchanged. Assumes nothing.
use Rattle.std.proofs.Common.{◌≡◌, ℕ, ◌%◌, ◌^◌, ◌≤◌, refl, le_trans, le_of_eq, arith, rules}
use Rattle.numbers.specs.Whole.{upward, cut, raised}
use Rattle.numbers.specs.Inner.{cut_size_value, cut_below, cut_more, raised_size_value, raised_below, raised_more}
use Rattle.numbers.proofs.Directions.{cutting, raising, size_bounded}
use Rattle.numbers.proofs.WholeCodes.{whole_plus, whole_minus}
use Rattle.numbers.proofs.whole.ceil_pattern.Goals as goal

pub returns-then-b-lt-SIGN : goal.returns-then-b-lt-SIGN
unfolding raised_size_value
returns-then-b-lt-SIGN c =
    whole_plus upward raised raised_below raised_more raising (λ a c. refl) c.args.b c.raised_size.result c.requires c.raised_size.ensures c.if-b-lt-SIGN.true

bounded : (p y : ℕ) → p ≤ 0x7ff0_0000_0000_0000 → y ≡ cut_size_value p → y ≤ 0x7ff0_0000_0000_0000
unfolding cut_size_value
bounded p y l e = le_trans (le_of_eq e) (size_bounded cut cut_below cut_more cutting p l)

pub overflow_add-result : goal.overflow_add-result
overflow_add-result c = omega (arith, bounded (c.args.b % 2 ^ 63) c.cut_size.result c.requires c.cut_size.ensures)

pub returns : goal.returns
unfolding cut_size_value
returns c =
    whole_minus upward cut cut_below cut_more cutting (λ a c. refl) c.args.b c.cut_size.result c.ranges.b.fits c.requires c.cut_size.ensures c.if-b-lt-SIGN.false
