-- `nearest_shift`: the rest against what is left of the unit is twice the rest against the unit, the three cases of the model's `closest`. Assumes nothing.
use Rattle.std.proofs.Common.{◌*◌, ◌%◌, ◌^◌, arith, rules}
use Rattle.numbers.proofs.Codes.{shift_unit, shift_pos, rest_le, shift_down, shift_up, shift_tie, shift_room}
use Rattle.numbers.proofs.narrowing.nearest_shift.Goals as goal

pub nonzero_div-q : goal.nonzero_div-q
nonzero_div-q c = shift_pos c.args.sh c.requires.fact_2

pub nonzero_rem-r : goal.nonzero_rem-r
nonzero_rem-r c = shift_pos c.args.sh c.requires.fact_2

pub overflow_sub-unit : goal.overflow_sub-unit
overflow_sub-unit c = rest_le c.args.w (1 * 2 ^ c.args.sh % 2 ^ 64) (shift_pos c.args.sh c.requires.fact_2)

pub returns-then-r-unit : goal.returns-then-r-unit
returns-then-r-unit c = shift_down c.args.w (2 ^ c.args.sh) (1 * 2 ^ c.args.sh % 2 ^ 64) (shift_unit c.args.sh c.requires.fact_2) (shift_pos c.args.sh c.requires.fact_2) c.if-r-unit.true

pub overflow_sub-unit-2 : goal.overflow_sub-unit-2
overflow_sub-unit-2 c = rest_le c.args.w (1 * 2 ^ c.args.sh % 2 ^ 64) (shift_pos c.args.sh c.requires.fact_2)

pub overflow_add-result : goal.overflow_add-result
overflow_add-result c = omega (arith, shift_room c.args.w c.args.sh c.ranges.w.fits c.requires.fact_1 c.requires.fact_2)

pub returns-then-r-unit-2 : goal.returns-then-r-unit-2
returns-then-r-unit-2 c = shift_up c.args.w (2 ^ c.args.sh) (1 * 2 ^ c.args.sh % 2 ^ 64) (shift_unit c.args.sh c.requires.fact_2) (shift_pos c.args.sh c.requires.fact_2) c.if-r-unit-2.true

pub overflow_add-result-2 : goal.overflow_add-result-2
overflow_add-result-2 c = omega (arith, shift_room c.args.w c.args.sh c.ranges.w.fits c.requires.fact_1 c.requires.fact_2)

pub returns : goal.returns
returns c = shift_tie c.args.w (2 ^ c.args.sh) (1 * 2 ^ c.args.sh % 2 ^ 64) (shift_unit c.args.sh c.requires.fact_2) (shift_pos c.args.sh c.requires.fact_2) (omega arith) (omega arith)
