-- `mirror_weights`: a code that names nothing takes the first arm of all six equations; else axis and filter are named, and the five values are those of
-- `build`, read through the answer's number, window and line. Assumes nothing.
use mathlib.Core.Path.{◌∙◌, sym, ap, refl}
use Rattle.coefficients.specs.Answer.{number_of, window_of, line_of}
use Rattle.mirror_sets.proofs.sets.mirror_weights.Goals as goal

pub returns-then-names_nothing : goal.returns-then-names_nothing
returns-then-names_nothing c =
    simp (sym c.names_nothing.ensures.answer ∙ c.if-names_nothing.true)
    (record { answer = refl; written = refl; written2 = refl; written3 = refl; written4 = refl; written5 = refl })

pub returns : goal.returns
returns c =
    let made = rw (c.axis_named.ensures.answer, c.filter_named.ensures.answer) at c.build-answer.ensures in
    rw (sym c.names_nothing.ensures.answer ∙ c.if-names_nothing.false)
    (record {
      answer = c.number.ensures.answer ∙ ap number_of made.answer;
      written = made.written;
      written2 = made.written2;
      written3 = made.written3;
      written4 = c.window_size.ensures.answer ∙ ap window_of made.answer;
      written5 = c.line.ensures.answer ∙ ap line_of made.answer;
    })
