-- A number is between -2^64 and 2^64 exactly when both comparisons hold; a NaN fails each. Assumes nothing.
use mathlib.Core.Path.{sym, subst}
use lib.Dec.{T}
use Rattle.lists.proofs.BoolLaws.{never}
use Rattle.finite_f32.proofs.WeightSize.{weight_in, weight_below, weight_above}
use Rattle.finite_f32.proofs.weights.weight_fits.Goals as goal

pub returns-then-w : goal.returns-then-w
returns-then-w c = record { at_most = (λ h. weight_in c.args.w (subst T (sym c.if-w.true) tt) (subst T (sym h) tt)); fact = (λ h k. subst T h (weight_above c.args.w k)) }

pub returns : goal.returns
returns c = record { at_most = λ e. never (sym e); fact = λ e. (λ k. subst T c.if-w.false (weight_below c.args.w k)) }
