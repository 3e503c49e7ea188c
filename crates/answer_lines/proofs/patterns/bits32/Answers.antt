-- patterns::bits32 is safe: a number that equals itself is no NaN (`equal_number`). Assumes nothing.
use Rattle.floats.proofs.Codes.{equal_number}
use Rattle.answer_lines.proofs.patterns.bits32.Goals as goal

pub float_to_bits-result : goal.float_to_bits-result
float_to_bits-result c = equal_number c.args.x c.if-x.false
