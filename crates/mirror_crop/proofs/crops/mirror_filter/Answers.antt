-- `mirror_filter`: a code above 3 takes the first arm; else the code's name is looked up, and what it picks decides: no filter, or the library's weight. Assumes nothing.
use mathlib.Core.Path.{refl, sym, ap, ◌∙◌}
use borrow.Author.Tests.{lt-ltb, le-ltb}
use Rattle.filters.specs.Names.{picked_of}
use Rattle.codes.specs.Codes.{filter_number, filter_weight}
use Rattle.mirror_crop.proofs.crops.mirror_filter.Goals as goal

pub returns-then-filter-gt3 : goal.returns-then-filter-gt3
unfolding filter_number filter_weight
returns-then-filter-gt3 c = simp (lt-ltb _ _ c.if-filter-gt3.true) (record { answer = refl; written = refl })

pub returns-in_default : goal.returns-in_default
unfolding filter_number filter_weight
returns-in_default c =
    let none = sym (ap picked_of c.filter_named.ensures.answer) ∙ sym c.pick-picked.ensures.answer ∙ c.in_default.is in
    rw (le-ltb _ _ c.if-filter-gt3.false, none) (record { answer = c.number.ensures.answer; written = refl })

pub returns : goal.returns
unfolding filter_number filter_weight
returns c =
    let one = sym (ap picked_of c.filter_named.ensures.answer) ∙ sym c.pick-picked.ensures.answer ∙ c.in-Some.is in
    rw (le-ltb _ _ c.if-filter-gt3.false, one) (record { answer = refl; written = c.value.ensures.answer })
