-- `not_finite` meets its contract: four answers of `finite`, put together as the definition does. Assumes nothing.
use Rattle.crop_box.proofs.checks.not_finite.Goals as goal

pub returns : goal.returns
returns c = record { answer = cc }
