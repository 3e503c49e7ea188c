-- `power`: 1 shifted by p is 2^p, and the library's conversion rounds it once. Assumes nothing.
use Rattle.std.proofs.Common.{ℕ, pos, ap, ◌∙◌}
use lib.Ieee.{binary64, of_int}
use Rattle.numbers.proofs.Codes.{shift_unit}
use Rattle.weight_precision.proofs.finding.power.Goals as goal

pub returns : goal.returns
returns c = c.nearest_u64_to_f64.ensures ∙ ap (λ (n : ℕ). of_int binary64 (pos n)) (shift_unit c.args.p c.requires)
