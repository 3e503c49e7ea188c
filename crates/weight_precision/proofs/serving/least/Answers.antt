-- `least`: 2^limit from `power`, a half added and turned over. Assumes nothing.
use Rattle.std.proofs.Common.{refl}
use Rattle.weight_precision.proofs.serving.least.Goals as goal

pub returns : goal.returns
returns c = rw c.power.ensures refl
