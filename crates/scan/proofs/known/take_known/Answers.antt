-- `take_known` meets its contract: it is `compared` over 24 bytes. Assumes nothing.
use mathlib.Core.Path.{subst}
use mathlib.Core.List.{[], ◌∷◌, ◌++◌}
use lib.IntN.{ℤ}
use mir.Facts.{to_z-of_z}
use Rattle.text.specs.Text.{signed}
use Rattle.scan.specs.Forms.{fixed}
use Rattle.scan.specs.Answer.{Passes}
use Rattle.scan.proofs.known.take_known.Goals as goal

pub returns : goal.returns
returns c = record { answer = subst (λ (v : ℤ). Passes (fixed (signed v ++ (c.args.end ∷ []))) c.args.text.now c.args.at c.compared.result) (to_z-of_z c.ranges.v) c.compared.ensures.answer }
