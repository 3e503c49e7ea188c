-- `ratio_box` meets its contract: the tests of the ratios choose one of three extents, and `placed` places it. Assumes nothing.
use Rattle.crop_fit.specs.Fit.{ratio_box_value}
use Rattle.crop_fit.proofs.ratios.ratio_box.Goals as goal

pub returns-then-abs : goal.returns-then-abs
unfolding ratio_box_value
returns-then-abs c = record { answer = rw (← c.abs.ensures.answer, c.if-abs.true) c.placed.ensures.answer }

pub returns-then-ratio-required : goal.returns-then-ratio-required
unfolding ratio_box_value
returns-then-ratio-required c = record { answer = rw (← c.abs.ensures.answer, c.if-abs.false, c.if-ratio-required.true) c.placed-then-ratio-required.ensures.answer }

pub returns : goal.returns
unfolding ratio_box_value
returns c = record { answer = rw (← c.abs.ensures.answer, c.if-abs.false, c.if-ratio-required.false) c.placed-2.ensures.answer }
