-- A sample is an infinity exactly where it equals one of the two (`equals_either`). Assumes nothing.
use mathlib.Core.Path.{◌∙◌, sym, refl}
use lib.Ieee.{div, neg, of_bits}
use Rattle.finite_f32.proofs.Infinite.{equals_either}
use Rattle.finite_f32.proofs.count.one.Goals as goal

pub returns-then-x-inf : goal.returns-then-x-inf
unfolding div of_bits neg
returns-then-x-inf c = rw (sym (equals_either c.args.x) ∙ c.if-x-inf.true) refl

pub returns : goal.returns
unfolding div of_bits neg
returns c = rw (sym (equals_either c.args.x) ∙ c.if-x-inf.false) refl
