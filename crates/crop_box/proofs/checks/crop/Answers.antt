-- `crop` meets its contract. Each return knows the tests that failed before it and the one that held: the ladder of `crop_of`, rewritten by them,
-- is the answer. No. 5 is asked of numbers that are finite and not below 0, by the three tests before it. Assumes nothing.
use mathlib.Core.Path.{◌∙◌, sym}
use Rattle.crop_box.specs.Crop.{crop_of}
use Rattle.crop_box.proofs.FromZero.{all_from_zero}
use Rattle.crop_box.proofs.checks.crop.Goals as goal

pub returns-then-bad_sides : goal.returns-then-bad_sides
unfolding crop_of
returns-then-bad_sides c = record { answer = rw (sym c.bad_sides.ensures.answer ∙ c.if-bad_sides.true) }

pub returns-then-not_finite : goal.returns-then-not_finite
unfolding crop_of
returns-then-not_finite c = record { answer = rw (sym c.bad_sides.ensures.answer ∙ c.if-bad_sides.false, sym c.not_finite.ensures.answer ∙ c.if-not_finite.true) }

pub returns-then-negative_extent : goal.returns-then-negative_extent
unfolding crop_of
returns-then-negative_extent c =
    record {
      answer = rw (
        sym c.bad_sides.ensures.answer ∙ c.if-bad_sides.false,
        sym c.not_finite.ensures.answer ∙ c.if-not_finite.false,
        sym c.negative_extent.ensures.answer ∙ c.if-negative_extent.true,
      );
    }

pub returns-then-start_outside : goal.returns-then-start_outside
unfolding crop_of
returns-then-start_outside c =
    record {
      answer = rw (
        sym c.bad_sides.ensures.answer ∙ c.if-bad_sides.false,
        sym c.not_finite.ensures.answer ∙ c.if-not_finite.false,
        sym c.negative_extent.ensures.answer ∙ c.if-negative_extent.false,
        sym c.start_outside.ensures.answer ∙ c.if-start_outside.true,
      );
    }

pub end_outside-requires : goal.end_outside-requires
end_outside-requires c =
    let at = c.args in
    let b =
    all_from_zero at.w at.h at.b
    (sym c.not_finite.ensures.answer ∙ c.if-not_finite.false)
    (sym c.negative_extent.ensures.answer ∙ c.if-negative_extent.false)
    (sym c.start_outside.ensures.answer ∙ c.if-start_outside.false) in
    record { fact_1 = b.left; fact_2 = b.width; fact_3 = b.top; fact_4 = b.height }

pub returns-then-end_outside : goal.returns-then-end_outside
unfolding crop_of
returns-then-end_outside c =
    record {
      answer = rw (
        sym c.bad_sides.ensures.answer ∙ c.if-bad_sides.false,
        sym c.not_finite.ensures.answer ∙ c.if-not_finite.false,
        sym c.negative_extent.ensures.answer ∙ c.if-negative_extent.false,
        sym c.start_outside.ensures.answer ∙ c.if-start_outside.false,
        sym c.end_outside.ensures.answer ∙ c.if-end_outside.true,
      );
    }

pub returns : goal.returns
unfolding crop_of
returns c =
    record {
      answer = rw (
        sym c.bad_sides.ensures.answer ∙ c.if-bad_sides.false,
        sym c.not_finite.ensures.answer ∙ c.if-not_finite.false,
        sym c.negative_extent.ensures.answer ∙ c.if-negative_extent.false,
        sym c.start_outside.ensures.answer ∙ c.if-start_outside.false,
        sym c.end_outside.ensures.answer ∙ c.if-end_outside.false,
      );
    }
