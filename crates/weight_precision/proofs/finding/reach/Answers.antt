-- `reach`: the definition's comparison. Assumes nothing.
use Rattle.std.proofs.Common.{refl}
use Rattle.weight_precision.proofs.finding.reach.Goals as goal

pub returns : goal.returns
returns c = rw (c.power.ensures, c.scaled.ensures) refl
