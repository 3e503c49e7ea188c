-- `line_weight` meets its contract: the filter at the same distance. Assumes nothing.
use Rattle.line_weights.specs.Weights.{line_weight_value}
use Rattle.line_weights.proofs.weights.line_weight.Goals as goal

pub returns : goal.returns
unfolding line_weight_value
returns c = record { answer = c.value.ensures.answer }
