-- `most`: 1 shifted by the limit is 2^limit, and one less is at least 0. Assumes nothing.
use Rattle.std.proofs.Common.{ℕ, ◌-◌, pos, ap, ◌∙◌, arith, pow_pos}
use lib.Ieee.{Float, binary64, add, of_int}
use Rattle.numbers.proofs.Codes.{shift_unit}
use Rattle.floats.specs.Doubles.{half64}
use Rattle.weight_precision.proofs.serving.most.Goals as goal

pub overflow_sub-end : goal.overflow_sub-end
overflow_sub-end c = rw (shift_unit c.args.limit (omega (arith, c.requires))) (pow_pos c.args.limit)

pub returns : goal.returns
returns c =
    let a = c.args in
    ap (λ (x : Float). add binary64 x half64) (c.nearest_u64_to_f64.ensures ∙ ap (λ (n : ℕ). of_int binary64 (pos (n - 1))) (shift_unit a.limit (omega (arith, c.requires))))
