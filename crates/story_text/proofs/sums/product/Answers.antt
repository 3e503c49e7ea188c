-- `sums::product` meets its contract: a step from 0 is the product. Assumes nothing.
use mathlib.Core.Path.{◌∙◌}
use lib.IntN.{pos, ◌*ℤ◌, +ℤ_idl}
use mir.Facts.{to_z-of_z}
use Rattle.vertical.proofs.ReadBack.{back64 as back}
use Rattle.story_text.proofs.sums.product.Goals as goal

pub returns : goal.returns
returns c =
    let a = c.args in
    record { answer = back c.step.type_inv ∙ c.step.ensures.answer ∙ rw (to_z-of_z c.ranges.weight) (+ℤ_idl (a.weight *ℤ pos a.sample)) }
