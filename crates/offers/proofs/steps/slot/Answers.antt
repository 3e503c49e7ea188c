-- `steps::slot` meets its contract: the two tests are the definition's. Assumes nothing.
use mathlib.Core.Path.{refl, ◌∙◌}
use native.Mathlib.Omega.{arith}
use mir.Facts.{to_z-of_z}
use Rattle.excesses.proofs.SumLaws.{back}
use Rattle.offers.proofs.steps.slot.Goals as goal

pub returns-then-not-used : goal.returns-then-not-used
returns-then-not-used c = record { answer = rw (c.if-not-used.true) refl }

pub add-requires : goal.add-requires
add-requires c =
    rw (to_z-of_z c.ranges.w, to_z-of_z c.ranges.s) (omega (arith, c.requires.0), omega (arith, c.requires.1))

pub returns-then-goes : goal.returns-then-goes
returns-then-goes c = record { answer = back c.add.type_inv ∙ c.add.ensures.answer ∙ rw (c.if-not-used.false, c.if-goes.true, to_z-of_z c.ranges.w, to_z-of_z c.ranges.s) refl }

pub returns : goal.returns
returns c = record { answer = to_z-of_z c.ranges.w ∙ rw (c.if-not-used.false, c.if-goes.false) refl }
