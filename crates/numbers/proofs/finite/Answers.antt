-- `finite` meets its contract: a double lies between the infinities exactly where it is finite. Assumes nothing.
use lib.Ieee.{neg, div, of_bits}
use Rattle.floats.proofs.Doubles.{finite_between}
use Rattle.numbers.proofs.finite.Goals as goal

pub returns : goal.returns
unfolding div of_bits neg
returns c = record { answer = finite_between c.args.x }
