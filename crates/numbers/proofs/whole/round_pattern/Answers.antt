-- `whole::round_pattern`: one size for both signs. Assumes nothing.
use Rattle.std.proofs.Common.{◌≡◌, ℕ, ◌%◌, ◌^◌, ◌≤◌, refl, le_trans, le_of_eq, arith, rules}
use Rattle.numbers.specs.Whole.{away}
use Rattle.integers.specs.Nearest.{nearest}
use Rattle.numbers.specs.Inner.{nearest_size_value, nearest_below, nearest_more}
use Rattle.numbers.proofs.Directions.{nearing, size_bounded}
use Rattle.numbers.proofs.WholeCodes.{whole_plus, whole_minus}
use Rattle.numbers.proofs.whole.round_pattern.Goals as goal

pub returns-then-b-lt-SIGN : goal.returns-then-b-lt-SIGN
unfolding nearest_size_value
returns-then-b-lt-SIGN c =
    whole_plus away nearest nearest_below nearest_more nearing (λ a c. refl) c.args.b c.nearest_size-y.result c.requires c.nearest_size-y.ensures c.if-b-lt-SIGN.true

bounded : (p y : ℕ) → p ≤ 0x7ff0_0000_0000_0000 → y ≡ nearest_size_value p → y ≤ 0x7ff0_0000_0000_0000
unfolding nearest_size_value
bounded p y l e = le_trans (le_of_eq e) (size_bounded nearest nearest_below nearest_more nearing p l)

pub overflow_add-result : goal.overflow_add-result
overflow_add-result c = omega (arith, bounded (c.args.b % 2 ^ 63) c.nearest_size-y.result c.requires c.nearest_size-y.ensures)

pub returns : goal.returns
unfolding nearest_size_value
returns c =
    whole_minus away nearest nearest_below nearest_more nearing (λ a c. refl) c.args.b c.nearest_size-y.result c.ranges.b.fits c.requires c.nearest_size-y.ensures c.if-b-lt-SIGN.false
