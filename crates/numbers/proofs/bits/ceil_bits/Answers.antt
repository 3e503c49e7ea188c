-- `ceil_bits`: a NaN is told apart, all else is `ceil_pattern`. Assumes nothing.
use Rattle.std.proofs.Common.{rules}
use Rattle.numbers.specs.Whole.{upward}
use Rattle.numbers.proofs.WholeCodes.{whole_nan}
use Rattle.numbers.proofs.bits.ceil_bits.Goals as goal

pub returns-then-b-gt-INFINITY : goal.returns-then-b-gt-INFINITY
returns-then-b-gt-INFINITY c = record { answer = whole_nan upward c.args.b c.if-b-gt-INFINITY.true }
