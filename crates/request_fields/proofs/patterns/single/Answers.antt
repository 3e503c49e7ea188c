-- patterns::single is safe: a pattern that is not past the infinities is no NaN's (`no_nan_code`). Assumes nothing.
use Rattle.std.proofs.Common.{arith}
use lib.Ieee.{binary32}
use Rattle.floats.proofs.Codes.{no_nan_code}
use Rattle.request_fields.proofs.patterns.single.Goals as goal

pub float_from_bits-result : goal.float_from_bits-result
float_from_bits-result c = no_nan_code binary32 c.args.b (omega arith)
