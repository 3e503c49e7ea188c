-- `u8x4::divide_alpha_inplace` meets its contract: lists that pass the test are equally long and whole pixels, so `divide_within` has what it asks for.
-- The table is the list of the rule's 256 values, which is computed here. Assumes nothing.
use mathlib.Core.Path.{◌∙◌, refl, sym}
use Rattle.alpha.specs.Lists.{divided_list}
use Rattle.alpha.proofs.u8x4.divide_alpha_inplace.Goals as goal

pub returns-then-bad_lists : goal.returns-then-bad_lists
unfolding divided_list
returns-then-bad_lists c = rw (sym c.bad_lists.ensures.answer ∙ c.if-bad_lists.true) (record { answer = refl; written = refl })

pub returns : goal.returns
unfolding divided_list
returns c = rw (sym c.bad_lists.ensures.answer ∙ c.if-bad_lists.false) (record { answer = refl; written = c.divide_within.ensures.written })
