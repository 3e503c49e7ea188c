-- A pattern past the infinities is a NaN's (`nan_code`), any other is no NaN's (`no_nan_code`). Assumes nothing.
use Rattle.std.proofs.Common.{sym, arith}
use lib.Ieee.{binary64, div, of_bits}
use Rattle.floats.proofs.Codes.{nan_code, no_nan_code}
use Rattle.crop_edges.proofs.pattern.double.Goals as goal

pub returns-then-bits-gt9218868437227405312 : goal.returns-then-bits-gt9218868437227405312
unfolding div of_bits
returns-then-bits-gt9218868437227405312 c = record { answer = sym (nan_code binary64 c.args.bits (omega arith)) }

pub float_from_bits-result : goal.float_from_bits-result
float_from_bits-result c = no_nan_code binary64 c.args.bits (omega arith)
