-- `judge::misfits` meets its contract: two weights of at most 2^31 differ by a number that does not wrap, and what is farther than 1 is below -1 or above 1. Assumes nothing.
use mathlib.Core.Path.{refl}
use native.Mathlib.Omega.{arith}
use lib.IntN.{◌-ℤ◌}
use mir.Facts.{to_z-of_z}
use Rattle.excesses.proofs.SumLaws.{sub_fits, sub_is}
use Rattle.offers.proofs.StepLaws.{far_is}
use Rattle.offers.proofs.judge.misfits.Goals as goal

pub overflow_sub-d : goal.overflow_sub-d
overflow_sub-d c = sub_fits (to_z-of_z c.ranges.v) (to_z-of_z c.ranges.w) (omega (arith, c.requires.2)) (omega (arith, c.requires.1))

pub in_type-inside-requires : goal.in_type-inside-requires
in_type-inside-requires c = rw (to_z-of_z c.ranges.v) (c.requires.0, omega (arith, c.requires.2))

pub returns : goal.returns
returns c =
    let d = sub_is (to_z-of_z c.ranges.v) (to_z-of_z c.ranges.w) (omega (arith, c.requires.2)) (omega (arith, c.requires.1)) in
    record { answer = rw (d, far_is (c.args.v -ℤ c.args.w), c.in_type-inside.ensures.answer, to_z-of_z c.ranges.v) refl }
