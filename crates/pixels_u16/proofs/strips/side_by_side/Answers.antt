-- Each way out is a row of the definition. Assumes nothing.
use borrow.Author.Tests.{lt-ltb, le-ltb}
use Rattle.pixels_u16.proofs.strips.side_by_side.Goals as goal

pub returns-then-components-lt3 : goal.returns-then-components-lt3
returns-then-components-lt3 c = rw (lt-ltb c.args.components 3 c.if-components-lt3.true)

pub returns : goal.returns
returns c = rw (le-ltb c.args.components 3 c.if-components-lt3.false)
