-- `larger`: the test is the definition's. Assumes nothing.
use Rattle.std.proofs.Common.{Bool, cond, sym, ap}
use Rattle.weight_precision.proofs.finding.larger.Goals as goal

pub returns-then-y-x : goal.returns-then-y-x
returns-then-y-x c = ap (λ (below : Bool). cond below c.args.x c.args.y) (sym c.if-y-x.true)

pub returns-else-y-x : goal.returns-else-y-x
returns-else-y-x c = ap (λ (below : Bool). cond below c.args.x c.args.y) (sym c.if-y-x.false)
