-- `at_least8`: the test against 0 decides which of the two it is. Assumes nothing.
use mir.Facts.{to_z-of_z}
use Rattle.clips.proofs.Laws.{least_zero, least_same}
use Rattle.clips.proofs.at_least8.Goals as goal

pub returns-then-v-lt0 : goal.returns-then-v-lt0
returns-then-v-lt0 c = least_zero (to_z-of_z c.ranges.v) c.if-v-lt0.true

pub returns-else-v-lt0 : goal.returns-else-v-lt0
returns-else-v-lt0 c = least_same (to_z-of_z c.ranges.v) c.if-v-lt0.false
