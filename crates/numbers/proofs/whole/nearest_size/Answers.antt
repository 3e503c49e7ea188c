-- `whole::nearest_size`: half a unit is added to the digits; below 1 a half and more go up. Assumes nothing.
use Rattle.std.proofs.Common.{◌∙◌, lt_of_le_of_lt, div-mul-le_self, arith, rules}
use Rattle.numbers.specs.Inner.{nearest_size_value, nearest_below, nearest_more}
use Rattle.numbers.proofs.WholeCodes.{size_whole, size_unit, size_under, unit_pos, unit_most, low_nearest, high_nearest}
use Rattle.numbers.proofs.whole.nearest_size.Goals as goal

pub returns-then-p-ge-WHOLE : goal.returns-then-p-ge-WHOLE
unfolding nearest_size_value
returns-then-p-ge-WHOLE c = size_whole nearest_below nearest_more c.args.p c.if-p-ge-WHOLE.true

pub overflow_add-result : goal.overflow_add-result
overflow_add-result c = omega (arith, unit_most c.args.p c.unit_of-unit.result c.if-p-ge-ONE.true c.unit_of-unit.ensures)

pub nonzero_div-result-then-p-ge-ONE : goal.nonzero_div-result-then-p-ge-ONE
nonzero_div-result-then-p-ge-ONE c = unit_pos c.args.p c.unit_of-unit.result c.unit_of-unit.ensures

pub overflow_mul-result : goal.overflow_mul-result
overflow_mul-result c =
    let m = unit_most c.args.p c.unit_of-unit.result c.if-p-ge-ONE.true c.unit_of-unit.ensures in
    record { fits = lt_of_le_of_lt (div-mul-le_self _ c.unit_of-unit.result) (omega arith) }

pub returns-then-p-ge-ONE : goal.returns-then-p-ge-ONE
unfolding nearest_size_value
returns-then-p-ge-ONE c =
    size_unit nearest_below nearest_more c.args.p c.unit_of-unit.result c.if-p-ge-WHOLE.false c.if-p-ge-ONE.true c.unit_of-unit.ensures

pub returns-then-p-lt-HALF : goal.returns-then-p-lt-HALF
unfolding nearest_size_value
returns-then-p-lt-HALF c = low_nearest c.args.p c.if-p-lt-HALF.true ∙ size_under nearest_below nearest_more c.args.p c.if-p-ge-ONE.false

pub returns-else-p-lt-HALF : goal.returns-else-p-lt-HALF
unfolding nearest_size_value
returns-else-p-lt-HALF c = high_nearest c.args.p c.if-p-lt-HALF.false ∙ size_under nearest_below nearest_more c.args.p c.if-p-ge-ONE.false
