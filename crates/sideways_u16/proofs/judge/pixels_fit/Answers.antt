-- Each way out is one lemma of `JudgeLaws`. Assumes nothing.
use mathlib.Core.Path.{sym, ap}
use mathlib.Core.Bool.{not}
use native.Mathlib.Omega.{arith}
use Rattle.sideways_u16.proofs.JudgeLaws.{too_few, too_many, whole_pixels}
use Rattle.sideways_u16.proofs.judge.pixels_fit.Goals as goal

pub returns-then-components-lt1 : goal.returns-then-components-lt1
returns-then-components-lt1 c = sym (ap not (too_few c.args.components c.args.row c.if-components-lt1.true))

pub returns-then-components-gt4 : goal.returns-then-components-gt4
returns-then-components-gt4 c = sym (ap not (too_many c.args.components c.args.row (omega arith)))

pub returns : goal.returns
returns c = sym (whole_pixels c.args.components c.args.row c.if-components-lt1.false (omega arith))
