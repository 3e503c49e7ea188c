-- `whole::unit_of`: the shift stays below 64 bits. Assumes nothing.
use Rattle.std.proofs.Common.{refl, rules}
use Rattle.numbers.proofs.WholeCodes.{unit_is}
use Rattle.numbers.proofs.whole.unit_of.Goals as goal

pub returns : goal.returns
returns c = unit_is c.args.p _ c.requires.fact_1 refl
