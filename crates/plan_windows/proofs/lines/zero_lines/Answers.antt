-- `zero_lines` meets its contract: the library fills the first slots. Assumes nothing.
use Rattle.plan_windows.proofs.FillLaws.{filled}
use Rattle.plan_windows.proofs.lines.zero_lines.Goals as goal

pub returns : goal.returns
returns c = record { written = filled 0 c.args.count c.args.out.now _ c.requires (c.fill.ensures.after (λ y e. e)) }
