-- `fitted_box`: case by case; the code's zeros are the definition's once their patterns are read. Assumes nothing.
use mathlib.Core.Path.{sym, ap}
use lib.Ieee.{of_bits}
use Rattle.crop_fit.specs.Fit.{box_of}
use Rattle.mirror_crop.proofs.answers.fitted_box.Goals as goal

pub returns-in-Err : goal.returns-in-Err
unfolding of_bits
returns-in-Err c = record { answer = sym (ap box_of c.in-Err.is) }
