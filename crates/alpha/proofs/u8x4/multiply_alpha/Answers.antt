-- `u8x4::multiply_alpha` meets its contract: lists that pass the test are equally long and whole pixels, so `multiply_into` has what it asks for.
-- Assumes nothing.
use mathlib.Core.Path.{◌∙◌, refl, sym}
use Rattle.alpha.specs.Lists.{multiplied_list}
use Rattle.alpha.proofs.u8x4.multiply_alpha.Goals as goal

pub returns-then-bad_lists : goal.returns-then-bad_lists
unfolding multiplied_list
returns-then-bad_lists c = rw (sym c.bad_lists.ensures.answer ∙ c.if-bad_lists.true) (record { answer = refl; written = refl })

pub returns : goal.returns
unfolding multiplied_list
returns c = rw (sym c.bad_lists.ensures.answer ∙ c.if-bad_lists.false) (record { answer = refl; written = c.multiply_into.ensures.written })
