-- `whole::floor_pattern`: the size is cut, or raised under a minus sign, and the sign put back. Assumes nothing.
use Rattle.std.proofs.Common.{◌≡◌, ℕ, ◌%◌, ◌^◌, ◌≤◌, refl, le_trans, le_of_eq, arith, rules}
use Rattle.numbers.specs.Whole.{downward, cut, raised}
use Rattle.numbers.specs.Inner.{cut_size_value, cut_below, cut_more, raised_size_value, raised_below, raised_more}
use Rattle.numbers.proofs.Directions.{cutting, raising, size_bounded}
use Rattle.numbers.proofs.WholeCodes.{whole_plus, whole_minus}
use Rattle.numbers.proofs.whole.floor_pattern.Goals as goal

pub returns-then-b-lt-SIGN : goal.returns-then-b-lt-SIGN
unfolding cut_size_value
returns-then-b-lt-SIGN c =
    whole_plus downward cut cut_below cut_more cutting (λ a c. refl) c.args.b c.cut_size.result c.requires c.cut_size.ensures c.if-b-lt-SIGN.true

bounded : (p y : ℕ) → p ≤ 0x7ff0_0000_0000_0000 → y ≡ raised_size_value p → y ≤ 0x7ff0_0000_0000_0000
unfolding raised_size_value
bounded p y l e = le_trans (le_of_eq e) (size_bounded raised raised_below raised_more raising p l)

pub overflow_add-result : goal.overflow_add-result
overflow_add-result c = omega (arith, bounded (c.args.b % 2 ^ 63) c.raised_size.result c.requires c.raised_size.ensures)

pub returns : goal.returns
unfolding raised_size_value
returns c =
    whole_minus downward raised raised_below raised_more raising (λ a c. refl) c.args.b c.raised_size.result c.ranges.b.fits c.requires c.raised_size.ensures c.if-b-lt-SIGN.false
