-- `figures::decimal` meets its contract: a number of 64 bits has 20 digits at most. Assumes nothing.
use native.Mathlib.Omega.{arith}
use Rattle.text.specs.Text.{reached}
use Rattle.text.proofs.TextLaws.{decimal_small}
use Rattle.program_streams.proofs.figures.decimal.Goals as goal

pub returns : goal.returns
unfolding reached
returns c = rw c.put_number.ensures.answer (omega (arith, decimal_small c.args.n))
