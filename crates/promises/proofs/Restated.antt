-- Promises that are proved in the crate of their definitions, said here again: alpha's three steps and the rule of the clip's table. Assumes nothing.
use Rattle.colours.proofs.Sweep as sweep
use Rattle.clips.proofs.Lookups.{table_rule}
use Rattle.promises.specs.AlphaSteps.{AlphaThreeSteps}
use Rattle.promises.specs.ClipRule.{ClipRule}

pub alpha_three_steps : AlphaThreeSteps
alpha_three_steps = sweep.alpha_three_steps

pub clip8_rule : ClipRule
clip8_rule = table_rule
