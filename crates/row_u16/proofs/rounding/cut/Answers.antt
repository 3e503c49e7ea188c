-- The two bounds in turn are those of the definition. Assumes nothing.
use mathlib.Core.Path.{◌≡◌, sym, ap, ◌∙◌, subst}
use mathlib.Core.Bool.{not}
use Prim.Native.Nat.{◌%◌}
use lib.Dec.{T}
use lib.Ieee.{Float, binary64, add, to_bits, is_nan}
use Rattle.row_u16.specs.Chunks.{at_least, at_most, placed}
use Rattle.row_u16.proofs.rounding.cut.Goals as goal

sum_is : (v top big : Float) {x y : Float} → x ≡ at_least v → y ≡ at_most x top → add binary64 y big ≡ placed v top big
unfolding placed
sum_is v top big ex ey = ap (λ (z : Float). add binary64 z big) (ey ∙ ap (λ (z : Float). at_most z top) ex)

pub float_to_bits-result : goal.float_to_bits-result
float_to_bits-result c =
    subst (λ (z : Float). T (not (is_nan z))) (sym (sum_is c.args.v c.args.top c.args.big c.at_least.ensures c.at_most.ensures)) c.requires

pub returns : goal.returns
returns c = record { answer = ap (λ (z : Float). to_bits binary64 z % 65536) (sum_is c.args.v c.args.top c.args.big c.at_least.ensures c.at_most.ensures) }
