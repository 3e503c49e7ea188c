-- The two tests are the definition's. Assumes nothing.
use Rattle.pixels_u16.proofs.OnceLaws.{one_next, all_next}
use Rattle.pixels_u16.proofs.strips.at_once.Goals as goal

pub returns-then-window-left : goal.returns-then-window-left
returns-then-window-left c = let a = c.args in one_next a.components a.window a.left c.side_by_side-n.ensures c.if-window-left.true

pub returns : goal.returns
returns c = let a = c.args in all_next a.components a.window a.left c.side_by_side-n.ensures c.if-window-left.false
