-- The tests are those of the definition, in its order; the places lie inside the text (`places_in`). Assumes nothing.
use Rattle.std.proofs.Common.{◌+◌, arith, le-leb}
use borrow.Author.Tests.{lt-leb}
use Rattle.crop_edges.specs.Edge.{is_decimal_value}
use Rattle.crop_edges.proofs.EdgeLaws.{places_in}
use Rattle.crop_edges.proofs.decimal.is_decimal.Goals as goal

pub overflow_add-before : goal.overflow_add-before
overflow_add-before c =
    let text = c.args.text.now in
    let fit = (places_in text).2 in
    rw (c.before_of-before.ensures.answer, c.places_of-places.ensures.answer) (record { fits = omega arith })

pub returns-then-before-places-lt1 : goal.returns-then-before-places-lt1
unfolding is_decimal_value
returns-then-before-places-lt1 c = record { answer = rw (← c.before_of-before.ensures.answer, ← c.places_of-places.ensures.answer, lt-leb 1 _ c.if-before-places-lt1.true) }

pub overflow_add-before-2 : goal.overflow_add-before-2
overflow_add-before-2 c =
    let text = c.args.text.now in
    let fit = (places_in text).2 in
    rw (c.before_of-before.ensures.answer, c.places_of-places.ensures.answer) (record { fits = omega arith })

pub returns-then-before-places-gt15 : goal.returns-then-before-places-gt15
unfolding is_decimal_value
returns-then-before-places-gt15 c = record { answer = rw (← c.before_of-before.ensures.answer, ← c.places_of-places.ensures.answer, le-leb 1 _ c.if-before-places-lt1.false, lt-leb _ 15 c.if-before-places-gt15.true) }

pub returns-then-not-all_digits : goal.returns-then-not-all_digits
unfolding is_decimal_value
returns-then-not-all_digits c =
    record {
      answer = rw (
        ← c.before_of-before.ensures.answer,
        ← c.places_of-places.ensures.answer,
        ← c.whole_at.ensures.answer,
        le-leb 1 _ c.if-before-places-lt1.false,
        le-leb (c.before_of-before.result + c.places_of-places.result) 15 (omega arith),
        ← c.all_digits.ensures.answer,
        c.if-not-all_digits.true,
      );
    }

pub returns : goal.returns
unfolding is_decimal_value
returns c =
    record {
      answer = rw (
        ← c.before_of-before.ensures.answer,
        ← c.places_of-places.ensures.answer,
        ← c.whole_at.ensures.answer,
        ← c.fraction_at.ensures.answer,
        le-leb 1 _ c.if-before-places-lt1.false,
        le-leb (c.before_of-before.result + c.places_of-places.result) 15 (omega arith),
        ← c.all_digits.ensures.answer,
        c.if-not-all_digits.false,
      ) c.all_digits-2.ensures.answer;
    }
