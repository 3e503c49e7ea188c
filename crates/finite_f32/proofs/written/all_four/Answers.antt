-- The product of the four lanes is a zero only if each is (`four_zeros`). Assumes nothing.
use mathlib.Core.Path.{◌≡◌, ◌∙◌, sym, refl, subst}
use lib.Dec.{T}
use lib.Ieee.{Float}
use Rattle.finite_f32.proofs.Lanes.{fourth, four_flag, four_zeros}
use Rattle.finite_f32.specs.Scan.{is_zero_value, flag}
use Rattle.finite_f32.proofs.written.all_four.Goals as goal

pub is_zero-requires : goal.is_zero-requires
is_zero-requires c =
    let e : c.zero_step-3.result ≡ fourth c.args.zz c.requires = c.zero_step-3.ensures.value ∙ rw (c.zero_step-2.ensures.value, c.zero_step.ensures.value) refl in
    subst (λ (z : Float). T (flag z)) (sym e) (four_flag c.args.zz c.requires)

pub returns : goal.returns
returns c =
    let e : c.zero_step-3.result ≡ fourth c.args.zz c.requires = c.zero_step-3.ensures.value ∙ rw (c.zero_step-2.ensures.value, c.zero_step.ensures.value) refl in
    λ h. four_zeros c.args.zz c.requires (subst (λ (z : Float). T (is_zero_value z)) e (subst T (sym (sym c.is_zero.ensures ∙ h)) tt))
