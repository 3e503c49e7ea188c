-- `range_end` meets its contract: the sum is small enough to be cast once raised, and the branch is the minimum. Assumes nothing.
use native.Mathlib.Omega.{arith}
use Rattle.numbers.proofs.Ranges.{in_ceil, stop_low, stop_high}
use Rattle.line_weights.proofs.ranges.range_end.Goals as goal

pub float_to_int-e : goal.float_to_int-e
float_to_int-e c = in_ceil c.args.centre c.args.radius c.ceil-e.result c.requires.fact_1 c.requires.fact_2 c.ceil-e.ensures.answer

pub returns-then-e-side : goal.returns-then-e-side
returns-then-e-side c = record { answer = stop_low c.args.side c.args.centre c.args.radius c.ceil-e.result c.ceil-e.ensures.answer c.if-e-side.true }

pub returns-else-e-side : goal.returns-else-e-side
returns-else-e-side c = record { answer = stop_high c.args.side c.args.centre c.args.radius c.ceil-e.result c.ceil-e.ensures.answer (omega arith) }
