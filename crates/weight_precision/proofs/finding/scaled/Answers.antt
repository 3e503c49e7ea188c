-- `scaled`: the definition's product and rounding, one call each. Assumes nothing.
use Rattle.std.proofs.Common.{ap, ◌∙◌}
use lib.Ieee.{Float, binary64}
use Rattle.floats.specs.Doubles.{◌times◌}
use Rattle.numbers.specs.Whole.{round_away}
use Rattle.weight_precision.specs.Precision.{scaled}
use Rattle.weight_precision.proofs.finding.scaled.Goals as goal

pub returns : goal.returns
unfolding scaled
returns c = c.round.ensures.answer ∙ ap (λ (x : Float). round_away binary64 (c.args.w times x)) c.power.ensures
