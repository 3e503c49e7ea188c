-- `steps::can_go` meets its contract: the sum is far below 2^46. Assumes nothing.
use mathlib.Core.Path.{◌≡◌, refl, ◌∙◌}
use native.Mathlib.Omega.{arith}
use lib.IntN.{◌+ℤ◌}
use mir.Facts.{to_z-of_z}
use mir.Syntax.{w64}
use mir.Val.{to_z, of_z}
use Rattle.integers.proofs.Parts.{add_size}
use Rattle.excesses.proofs.SumLaws.{back}
use Rattle.offers.proofs.steps.can_go.Goals as goal

pub add-requires : goal.add-requires
add-requires c = rw (to_z-of_z c.ranges.w, to_z-of_z c.ranges.s) (omega (arith, c.requires.1), omega (arith, c.requires.2))

pub in_type-requires : goal.in_type-requires
in_type-requires c =
    let sum : to_z w64 (of_z w64 c.add.result) ≡ c.args.w +ℤ c.args.s = back c.add.type_inv ∙ c.add.ensures.answer ∙ rw (to_z-of_z c.ranges.w, to_z-of_z c.ranges.s) refl in
    (c.requires.0, rw sum (omega (arith, add_size c.args.w c.args.s, c.requires.1, c.requires.2)))

pub returns : goal.returns
returns c =
    let sum : to_z w64 (of_z w64 c.add.result) ≡ c.args.w +ℤ c.args.s = back c.add.type_inv ∙ c.add.ensures.answer ∙ rw (to_z-of_z c.ranges.w, to_z-of_z c.ranges.s) refl in
    record { answer = c.in_type.ensures.answer ∙ rw sum refl }
