-- `fit_src_into_dst_size` meets its contract: the ladder of `fit_of` is rewritten by the tests that led to each return and by the case of the centring; the box is
-- the one that `fitted` gave. Assumes nothing.
use Rattle.std.specs.Prelude.{Ok}
use mathlib.Core.Path.{◌∙◌, sym, ap}
use Rattle.crop_fit.specs.Fit.{fit_of}
use Rattle.crop_fit.proofs.fitting.fit_src_into_dst_size.Goals as goal

pub returns-then-large_sides : goal.returns-then-large_sides
unfolding fit_of
returns-then-large_sides c = record { answer = rw (sym c.large_sides.ensures.answer ∙ c.if-large_sides.true) }

pub returns-then-not-finite : goal.returns-then-not-finite
unfolding fit_of
returns-then-not-finite c =
    let bad = rw (c.finite.ensures.answer, c.finite-in-Some.ensures.answer) at c.if-not-finite.true in
    record { answer = rw (sym c.large_sides.ensures.answer ∙ c.if-large_sides.false, c.in-Some.is, bad) }

pub returns-in-None : goal.returns-in-None
unfolding fit_of
returns-in-None c = record { answer = rw (sym c.large_sides.ensures.answer ∙ c.if-large_sides.false, c.in-None.is) (ap Ok c.fitted.ensures.answer) }

pub returns-else-not-finite : goal.returns-else-not-finite
unfolding fit_of
returns-else-not-finite c =
    let good = rw (c.finite.ensures.answer, c.finite-in-Some.ensures.answer) at c.if-not-finite.false in
    record {
      answer = rw (
        sym c.large_sides.ensures.answer ∙ c.if-large_sides.false,
        c.in-Some.is,
        good,
        ← c.clamp01-in-Some.ensures.answer,
        ← c.clamp01.ensures.answer,
      )
          (ap Ok c.fitted-in-Some.ensures.answer);
    }
