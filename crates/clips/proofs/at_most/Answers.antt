-- `at_most`: the test against 65535 decides which of the two it is, and what is not above it fits a u16. Assumes nothing.
use mir.Facts.{to_z-of_z}
use mir.Syntax.{w16}
use Rattle.clips.proofs.Laws.{most_top, most_same, most_fits, fits16}
use Rattle.clips.proofs.at_most.Goals as goal

pub overflow_cast-result : goal.overflow_cast-result
overflow_cast-result c = most_fits (to_z-of_z c.ranges.v) 65535 w16 fits16 c.if-v-gt65535.false c.requires

pub returns-then-v-gt65535 : goal.returns-then-v-gt65535
returns-then-v-gt65535 c = most_top (to_z-of_z c.ranges.v) 65535 c.if-v-gt65535.true

pub returns-else-v-gt65535 : goal.returns-else-v-gt65535
returns-else-v-gt65535 c = most_same (to_z-of_z c.ranges.v) 65535 c.if-v-gt65535.false c.requires
