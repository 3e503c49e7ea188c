-- `abs`: a NaN is told by x != x and answered by one; of any other x the pattern with its sign bit cleared is that of |x| (`cleared_is_abs`). Assumes nothing.
use Rattle.std.proofs.Common.{◌≡◌, T, sym, ap, subst}
use lib.Ieee.{Float, nan, binary64, div, of_bits, fits}
use lib.Ieee.Compare.{differs_from_itself}
use Rattle.numbers.specs.Whole.{abs}
use Rattle.numbers.proofs.SignBit.{cleared_is_abs, cleared_number}
use Rattle.floats.proofs.Codes.{equal_number}
use Rattle.numbers.proofs.abs.Goals as goal

abs-nan : (x : Float) → x ≡ nan → nan ≡ abs x
unfolding abs
abs-nan x e = sym (ap abs e)

pub returns-then-x : goal.returns-then-x
unfolding div of_bits
returns-then-x c = record { answer = abs-nan c.args.x (differs_from_itself c.args.x (subst T (sym c.if-x.true) tt)) }

pub float_to_bits-result : goal.float_to_bits-result
float_to_bits-result c = equal_number c.args.x c.if-x.false

pub float_from_bits-result : goal.float_from_bits-result
float_from_bits-result c =
    let held : T (fits binary64 c.args.x) = subst T (sym c.well_formed.0.1) tt in
    cleared_number binary64 c.args.x held (equal_number c.args.x c.if-x.false)

pub returns : goal.returns
returns c =
    let held : T (fits binary64 c.args.x) = subst T (sym c.well_formed.0.1) tt in
    record { answer = cleared_is_abs binary64 c.args.x held (equal_number c.args.x c.if-x.false) }
