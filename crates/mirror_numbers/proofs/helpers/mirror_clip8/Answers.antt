-- `mirror_clip8`: the library's contract, the value read back from its bits. Assumes nothing.
use mathlib.Core.Path.{◌∙◌, ap}
use mir.Facts.{to_z-of_z}
use Rattle.integers.specs.Sums.{clipped}
use Rattle.mirror_numbers.proofs.helpers.mirror_clip8.Goals as goal

pub returns : goal.returns
returns c = record { answer = c.clip8.ensures.answer ∙ ap (clipped 255) (to_z-of_z c.ranges.value) }
