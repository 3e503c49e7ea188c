-- Of a flag, equality with 0 tells a zero from a NaN. Assumes nothing.
use Rattle.finite_f32.proofs.Lanes.{zero_test}
use Rattle.finite_f32.proofs.scan.is_zero.Goals as goal

pub returns : goal.returns
returns c = zero_test c.args.z c.requires
