-- `at_most8`: the test against 255 decides which of the two it is, and what is not above it fits a u8. Assumes nothing.
use mir.Facts.{to_z-of_z}
use mir.Syntax.{w8}
use Rattle.clips.proofs.Laws.{most_top, most_same, most_fits, fits8}
use Rattle.clips.proofs.at_most8.Goals as goal

pub overflow_cast-result : goal.overflow_cast-result
overflow_cast-result c = most_fits (to_z-of_z c.ranges.v) 255 w8 fits8 c.if-v-gt255.false c.requires

pub returns-then-v-gt255 : goal.returns-then-v-gt255
returns-then-v-gt255 c = most_top (to_z-of_z c.ranges.v) 255 c.if-v-gt255.true

pub returns-else-v-gt255 : goal.returns-else-v-gt255
returns-else-v-gt255 c = most_same (to_z-of_z c.ranges.v) 255 c.if-v-gt255.false c.requires
