-- `zero_weights` meets its contract: the library fills the first slots. Assumes nothing.
use Rattle.floats.specs.Doubles.{zero64}
use Rattle.plan_windows.proofs.FillLaws.{filled}
use Rattle.plan_windows.proofs.lines.zero_weights.Goals as goal

pub returns : goal.returns
returns c = record { written = filled zero64 c.args.count c.args.out.now _ c.requires (c.fill.ensures.after (λ y e. e)) }
