-- `sums::add` meets its contract: far from the ends of 64 bits nothing wraps. Assumes nothing.
use native.Mathlib.Omega.{arith}
use mir.Facts.{to_z-of_z}
use Rattle.excesses.proofs.SumLaws.{add_fits, add_is}
use Rattle.excesses.proofs.sums.add.Goals as goal

pub overflow_add-result : goal.overflow_add-result
overflow_add-result c = add_fits (to_z-of_z c.ranges.t) (to_z-of_z c.ranges.w) c.requires.0 (omega (arith, c.requires.1))

pub returns : goal.returns
returns c = record { answer = add_is (to_z-of_z c.ranges.t) (to_z-of_z c.ranges.w) c.requires.0 (omega (arith, c.requires.1)) }
