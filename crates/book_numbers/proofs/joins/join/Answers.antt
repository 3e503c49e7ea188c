-- `join` meets its contract: the first alone where it stopped, else field by field. Assumes nothing.
use mathlib.Core.Path.{ap, ◌∙◌}
use lib.IntN.{ℤ}
use mir.Facts.{to_z-of_z}
use mir.Syntax.{w64}
use mir.Val.{SFits, to_z, of_z}
use borrow.Author.Rules.{rules}
use borrow.Author.Tests.{eq-eqb, ne_eqb}
use Rattle.excesses.proofs.SumLaws.{back}
use Rattle.book_numbers.specs.Marks.{below, above}
use Rattle.book_numbers.specs.Joins.{extreme_of, join_of}
use Rattle.book_numbers.proofs.joins.join.Goals as goal

pub returns-then-a-ne0 : goal.returns-then-a-ne0
unfolding join_of
returns-then-a-ne0 c = record { answer = rw (ne_eqb c.args.a.stopped 0 c.if-a-ne0.true) }

pub returns : goal.returns
unfolding join_of
returns c =
    let a = c.args.a in
    let b = c.args.b in
    let least : SFits w64 a.least = search rules in
    let least-b : SFits w64 b.least = search rules in
    let most : SFits w64 a.most = search rules in
    let most-b : SFits w64 b.most = search rules in
    let l = c.least in
    let m = c.most in
    let e-least = back l.type_inv ∙ l.ensures.answer ∙ ap (λ (z : ℤ). extreme_of below a.windows z b.windows (to_z w64 (of_z w64 b.least))) (to_z-of_z least) ∙ ap (extreme_of below a.windows a.least b.windows) (to_z-of_z least-b) in
    let e-most = back m.type_inv ∙ m.ensures.answer ∙ ap (λ (z : ℤ). extreme_of above a.windows z b.windows (to_z w64 (of_z w64 b.most))) (to_z-of_z most) ∙ ap (extreme_of above a.windows a.most b.windows) (to_z-of_z most-b) in
    record {
      answer = rw (eq-eqb a.stopped 0 c.if-a-ne0.false)
          (λ i. record {
            sheets = c.add.ensures.answer i;
            windows = c.add-2.ensures.answer i;
            least = e-least i;
            most = e-most i;
            notflat = c.add-3.ensures.answer i;
            negative = c.add-4.ensures.answer i;
            stopped = b.stopped;
            byte = c.add-5.ensures.answer i;
          });
    }
