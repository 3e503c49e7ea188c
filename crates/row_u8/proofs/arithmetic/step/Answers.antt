-- The term is at most 255 times the weight in size, for which the sum has room, so neither the product nor the sum wraps (`Sizes`). Assumes nothing.
use mathlib.Core.Path.{◌∙◌}
use mir.Facts.{to_z-of_z}
use Rattle.vertical.proofs.ReadBack.{back32 as back}
use Rattle.row_u8.proofs.Sizes.{step_fits, step_is}
use Rattle.row_u8.proofs.arithmetic.step.Goals as goal

pub overflow_add-result : goal.overflow_add-result
overflow_add-result c =
    step_fits
    (to_z-of_z c.ranges.acc)
    (back c.wide16.type_inv ∙ c.wide16.ensures ∙ to_z-of_z c.ranges.w)
    (back c.wide8.type_inv ∙ c.wide8.ensures)
    c.requires
    c.ranges.w.sfits
    c.ranges.s.fits

pub returns : goal.returns
returns c =
    step_is
    (to_z-of_z c.ranges.acc)
    (back c.wide16.type_inv ∙ c.wide16.ensures ∙ to_z-of_z c.ranges.w)
    (back c.wide8.type_inv ∙ c.wide8.ensures)
    c.requires
    c.ranges.w.sfits
    c.ranges.s.fits
