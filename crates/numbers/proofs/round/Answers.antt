-- `round`: a NaN is told by x != x; of any other x the pattern is worked out, and reading it back gives the value, since it fits binary64. Assumes nothing.
use Rattle.std.proofs.Common.{T, sym, subst}
use lib.Ieee.{binary64, div, of_bits, fits}
use lib.Ieee.Compare.{differs_from_itself}
use Rattle.floats.proofs.Codes.{equal_number}
use Rattle.numbers.specs.Whole.{away}
use Rattle.numbers.proofs.WholeCodes.{whole_back, whole_read, nan_whole, number_code}
use Rattle.numbers.proofs.round.Goals as goal

pub returns-then-x : goal.returns-then-x
unfolding div of_bits
returns-then-x c = record { answer = nan_whole away c.args.x (differs_from_itself c.args.x (subst T (sym c.if-x.true) tt)) }

pub float_to_bits-x : goal.float_to_bits-x
float_to_bits-x c = equal_number c.args.x c.if-x.false

pub round_pattern-requires : goal.round_pattern-requires
round_pattern-requires c =
    let held : T (fits binary64 c.args.x) = subst T (sym c.well_formed.0.1) tt in
    number_code c.args.x held (equal_number c.args.x c.if-x.false)

pub float_from_bits-result : goal.float_from_bits-result
float_from_bits-result c =
    let held : T (fits binary64 c.args.x) = subst T (sym c.well_formed.0.1) tt in
    whole_read away c.args.x c.round_pattern.result held (equal_number c.args.x c.if-x.false) c.round_pattern.ensures

pub returns : goal.returns
returns c =
    let held : T (fits binary64 c.args.x) = subst T (sym c.well_formed.0.1) tt in
    record { answer = whole_back away c.args.x c.round_pattern.result held c.round_pattern.ensures }
