-- `whole::cut_size`: nothing is added to the digits; below 1 the answer is 0. Assumes nothing.
use Rattle.std.proofs.Common.{ℕ, ◌*◌, ◌/◌, sym, ap, ◌∙◌, add-zero, div-mul-le_self, arith, rules}
use Rattle.numbers.specs.Inner.{cut_size_value, cut_below, cut_more}
use Rattle.numbers.proofs.WholeCodes.{size_whole, size_unit, size_under, unit_pos}
use Rattle.numbers.proofs.whole.cut_size.Goals as goal

pub returns-then-p-ge-WHOLE : goal.returns-then-p-ge-WHOLE
unfolding cut_size_value
returns-then-p-ge-WHOLE c = size_whole cut_below cut_more c.args.p c.if-p-ge-WHOLE.true

pub nonzero_div-result : goal.nonzero_div-result
nonzero_div-result c = unit_pos c.args.p c.unit_of-unit.result c.unit_of-unit.ensures

pub overflow_mul-result : goal.overflow_mul-result
overflow_mul-result c = omega (arith, div-mul-le_self c.args.p c.unit_of-unit.result)

pub returns-then-p-ge-ONE : goal.returns-then-p-ge-ONE
unfolding cut_size_value
returns-then-p-ge-ONE c =
    ap (λ (z : ℕ). z / c.unit_of-unit.result * c.unit_of-unit.result) (sym (add-zero c.args.p)) ∙ size_unit cut_below cut_more c.args.p c.unit_of-unit.result c.if-p-ge-WHOLE.false c.if-p-ge-ONE.true c.unit_of-unit.ensures

pub returns : goal.returns
unfolding cut_size_value
returns c = size_under cut_below cut_more c.args.p c.if-p-ge-ONE.false
