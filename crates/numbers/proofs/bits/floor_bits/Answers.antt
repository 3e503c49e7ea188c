-- `floor_bits`: a NaN is told apart, all else is `floor_pattern`. Assumes nothing.
use Rattle.std.proofs.Common.{rules}
use Rattle.numbers.specs.Whole.{downward}
use Rattle.numbers.proofs.WholeCodes.{whole_nan}
use Rattle.numbers.proofs.bits.floor_bits.Goals as goal

pub returns-then-b-gt-INFINITY : goal.returns-then-b-gt-INFINITY
returns-then-b-gt-INFINITY c = record { answer = whole_nan downward c.args.b c.if-b-gt-INFINITY.true }
