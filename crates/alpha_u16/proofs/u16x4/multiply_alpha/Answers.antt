-- `u16x4::multiply_alpha` meets its contract: lists that pass the test are equally long and whole pixels. Assumes nothing.
use mathlib.Core.Path.{◌∙◌, refl, sym}
use Rattle.colours_u16.specs.Alpha.{multiplied}
use Rattle.alpha_u16.specs.Lists.{multiplied_list}
use Rattle.alpha_u16.proofs.u16x4.multiply_alpha.Goals as goal

pub returns-then-bad_lists : goal.returns-then-bad_lists
unfolding multiplied_list
returns-then-bad_lists c = rw (sym c.bad_lists.ensures.answer ∙ c.if-bad_lists.true) (record { answer = refl; written = refl })

pub returns : goal.returns
unfolding multiplied_list
returns c = rw (sym c.bad_lists.ensures.answer ∙ c.if-bad_lists.false) (record { answer = refl; written = c.change_into.ensures.written multiplied (λ x y p. p.1) })
