-- `whole::raised_size`: a unit less 1 is added to the digits; below 1 all but 0 is raised to 1. Assumes nothing.
use Rattle.std.proofs.Common.{◌∙◌, lt_of_le_of_lt, div-mul-le_self, arith, rules}
use Rattle.numbers.specs.Inner.{raised_size_value, raised_below, raised_more}
use Rattle.numbers.proofs.WholeCodes.{size_whole, size_unit, size_under, unit_pos, unit_most, none_raised, some_raised}
use Rattle.numbers.proofs.whole.raised_size.Goals as goal

pub returns-then-p-ge-WHOLE : goal.returns-then-p-ge-WHOLE
unfolding raised_size_value
returns-then-p-ge-WHOLE c = size_whole raised_below raised_more c.args.p c.if-p-ge-WHOLE.true

pub overflow_sub-result : goal.overflow_sub-result
overflow_sub-result c = omega (arith, unit_pos c.args.p c.unit_of-unit.result c.unit_of-unit.ensures)

pub overflow_add-result : goal.overflow_add-result
overflow_add-result c = omega (arith, unit_most c.args.p c.unit_of-unit.result c.if-p-ge-ONE.true c.unit_of-unit.ensures)

pub nonzero_div-result : goal.nonzero_div-result
nonzero_div-result c = unit_pos c.args.p c.unit_of-unit.result c.unit_of-unit.ensures

pub overflow_mul-result : goal.overflow_mul-result
overflow_mul-result c =
    let m = unit_most c.args.p c.unit_of-unit.result c.if-p-ge-ONE.true c.unit_of-unit.ensures in
    record { fits = lt_of_le_of_lt (div-mul-le_self _ c.unit_of-unit.result) (omega arith) }

pub returns-then-p-ge-ONE : goal.returns-then-p-ge-ONE
unfolding raised_size_value
returns-then-p-ge-ONE c =
    size_unit raised_below raised_more c.args.p c.unit_of-unit.result c.if-p-ge-WHOLE.false c.if-p-ge-ONE.true c.unit_of-unit.ensures

pub returns-then-p-eq0 : goal.returns-then-p-eq0
unfolding raised_size_value
returns-then-p-eq0 c = none_raised c.args.p c.if-p-eq0.true ∙ size_under raised_below raised_more c.args.p c.if-p-ge-ONE.false

pub returns-else-p-eq0 : goal.returns-else-p-eq0
unfolding raised_size_value
returns-else-p-eq0 c = some_raised c.args.p c.if-p-eq0.false ∙ size_under raised_below raised_more c.args.p c.if-p-ge-ONE.false
