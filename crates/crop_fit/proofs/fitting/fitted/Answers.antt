-- `fitted` meets its contract: the source's box for a zero side, else the box that `ratio_box` gave. Assumes nothing.
use mathlib.Core.Path.{◌∙◌, sym}
use Rattle.crop_fit.specs.Fit.{fitted_box}
use Rattle.crop_fit.proofs.fitting.fitted.Goals as goal

pub returns-then-zero_side : goal.returns-then-zero_side
unfolding fitted_box
returns-then-zero_side c = record { answer = rw (sym c.zero_side.ensures.answer ∙ c.if-zero_side.true) }

pub returns : goal.returns
unfolding fitted_box
returns c = record { answer = rw (sym c.zero_side.ensures.answer ∙ c.if-zero_side.false) c.ratio_box.ensures.answer }
