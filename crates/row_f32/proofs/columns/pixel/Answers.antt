-- The sum is at most 2^205 in size (`good_one`), which is what the narrowing asks. Assumes nothing.
use mathlib.Core.Path.{sym, subst}
use Prim.Native.Nat.{◌^◌}
use lib.Ieee.{Float}
use Rattle.floats.specs.Within.{AtMost}
use Rattle.row_f32.proofs.SumLaws.{good_one}
use Rattle.row_f32.proofs.columns.pixel.Goals as goal

pub narrow-requires : goal.narrow-requires
narrow-requires c = let a = c.args in subst (λ (z : Float). AtMost z (2 ^ 205)) (sym c.sum.ensures) (good_one a.ws.now a.src.now a.at a.row c.requires)
