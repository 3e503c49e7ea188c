-- Where the scan found every sample finite, the count is 0 (`infinities_none`). Assumes nothing.
use mathlib.Core.Path.{sym}
use Rattle.vertical.proofs.F32Infinite.{infinities_none}
use Rattle.finite_f32.proofs.count.counted.Goals as goal

pub returns-then-finite : goal.returns-then-finite
returns-then-finite c = sym (infinities_none c.args.out.now (c.requires.nan_value c.if-finite.true))
