-- `holds`: the two comparisons of the definition, with 2^limit from `power`. Assumes nothing.
use Rattle.std.proofs.Common.{refl}
use Rattle.weight_precision.proofs.serving.holds.Goals as goal

pub returns : goal.returns
returns c = rw c.power-end.ensures refl
