-- `range_start` meets its contract: a difference above 0 is small enough to be cast once floored, and any other floors to 0 or below. Assumes nothing.
use mathlib.Core.Path.{sym, ap, ◌∙◌}
use Prim.Native.Nat.{◌^◌}
use lib.Dec.{lit<, lit≤}
use lib.Ieee.{binary64, sub, to_unsigned}
use Rattle.numbers.proofs.Ranges.{floor_none, sub_sort, in_floor}
use Rattle.numbers.proofs.AtLeast.{start_is}
use Rattle.line_weights.proofs.ranges.range_start.Goals as goal

pub float_to_int-result : goal.float_to_int-result
float_to_int-result c = in_floor c.args.centre c.args.radius c.floor.result c.requires.fact_1 c.requires.fact_2 c.if-d.true c.floor.ensures.answer

pub returns-then-d : goal.returns-then-d
returns-then-d c = record { answer = ap (to_unsigned 32) c.floor.ensures.answer ∙ sym (start_is c.args.centre c.args.radius) }

pub returns : goal.returns
returns c = record { answer = floor_none (sub binary64 c.args.centre c.args.radius) (2 ^ 30) (lit< tt) (sub_sort c.args.centre c.args.radius (2 ^ 30) (2 ^ 30) c.requires.fact_1 c.requires.fact_2 (lit≤ tt)) c.if-d.false ∙ sym (start_is c.args.centre c.args.radius) }
