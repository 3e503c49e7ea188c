-- `end_outside` meets its contract: two answers of `ends_past`, put together as the definition does. Assumes nothing.
use Rattle.crop_box.proofs.checks.end_outside.Goals as goal

pub returns : goal.returns
returns c = record { answer = cc }
