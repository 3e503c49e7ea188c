-- `narrow_size`: one case of `narrow_size_value` for each way, by the exponent's field. Assumes nothing.
use Rattle.std.proofs.Common.{arith, rules}
use Rattle.numbers.proofs.Codes.{size_top, size_over, size_mid, size_low}
use Rattle.numbers.proofs.narrowing.narrow_size.Goals as goal

pub returns-then-y-lt2139095040 : goal.returns-then-y-lt2139095040
returns-then-y-lt2139095040 c = size_top c.args.p c.nearest_shift-y.result c.if-field-ge897.true c.nearest_shift-y.ensures c.if-y-lt2139095040.true

pub returns-then-field-ge897 : goal.returns-then-field-ge897
returns-then-field-ge897 c = size_over c.args.p c.nearest_shift-y.result c.if-field-ge897.true c.nearest_shift-y.ensures (omega arith)

pub returns-then-field-ge873 : goal.returns-then-field-ge873
returns-then-field-ge873 c = size_mid c.args.p c.nearest_shift.result (omega arith) c.if-field-ge873.true c.nearest_shift.ensures

pub returns : goal.returns
returns c = size_low c.args.p (omega arith)
