-- A set of a retired filter, one that is barred, and one that is neither: what `put` answers and leaves, by the two tests that it asks first. Cited by the proof of `put`. Assumes nothing.
use Rattle.std.specs.Prelude.{Result, Err}
use mathlib.Core.Path.{◌≡◌, refl, sym, ap, ◌∙◌}
use mathlib.Core.Bool.{true, false, ◌||◌}
use mathlib.Core.List.{List}
use Prim.Native.Nat.{ℕ}
use lib.Ieee.{Float}
use lib.IntN.{ℤ}
use Rattle.refusal.specs.declared.Refusal.TheVariants.{DoesNotFit, RetiredFilter}
use Rattle.filters.specs.Names.{is_retired}
use Rattle.plans.specs.declared.Request.{Request}
use Rattle.coefficients.specs.declared.NotBuilt.{NotBuilt}
use Rattle.coefficients.specs.declared.NotBuilt.TheVariants.{Refused}
use Rattle.made_sets.specs.Made.{Made, made_of, answer_of}
use Rattle.shares.specs.Store.{Store, share, closed, view_of}
use Rattle.shares.specs.Scratch.{Scratch, too_short, built_in}
use Rattle.shares.specs.Machine.{entered, put_of, after, put_answer, scratch_after, puts, by, next}

module _ (s : Store) (c : ℕ) (q : Request) (lent : Scratch) where
  -- the answer and the eight lists, as a put gives them
  abbrev pub Put : Result ℕ NotBuilt → List ℕ → List ℤ → List ℕ → List ℕ → List ℤ → List Float → List ℕ → List ℕ → Type 0
  Put answer numbers slots starts sizes excesses doubles firsts counts =
      (answer ≡ put_answer (view_of s c) q lent)
      × ((numbers ≡ (next s (by c (puts q lent))).numbers)
      × ((slots ≡ (next s (by c (puts q lent))).slots)
      × ((starts ≡ (next s (by c (puts q lent))).starts)
      × ((sizes ≡ (next s (by c (puts q lent))).sizes)
      × ((excesses ≡ (next s (by c (puts q lent))).excesses)
      × ((doubles ≡ (scratch_after (view_of s c) q lent).doubles)
      × ((firsts ≡ (scratch_after (view_of s c) q lent).firsts)
      × (counts ≡ (scratch_after (view_of s c) q lent).counts))))))))

  pub retired_put : is_retired q.filter ≡ true → Put (Err (Refused RetiredFilter)) s.numbers s.slots s.starts s.sizes s.excesses lent.doubles lent.firsts lent.counts
  unfolding put_of entered answer_of next after
  retired_put k = rw k (refl, (refl, (refl, (refl, (refl, (refl, (refl, (refl, refl))))))))

  pub barred_put : is_retired q.filter ≡ false → closed s c || too_short (share s c) lent ≡ true → Put (Err (Refused DoesNotFit)) s.numbers s.slots s.starts s.sizes s.excesses lent.doubles lent.firsts lent.counts
  unfolding put_of entered view_of answer_of next after
  barred_put k h = rw (k, h) (refl, (refl, (refl, (refl, (refl, (refl, (refl, (refl, refl))))))))

  module _ (k : is_retired q.filter ≡ false) (h : closed s c || too_short (share s c) lent ≡ false) where
    put_is : put_of (view_of s c) q lent ≡ made_of q (share s c)
    unfolding put_of entered view_of
    put_is = rw (k, h)

    scratch_is : scratch_after (view_of s c) q lent ≡ built_in q (share s c) lent
    unfolding entered view_of
    scratch_is = rw (k, h)

    store_is : next s (by c (puts q lent)) ≡ after s c (made_of q (share s c))
    unfolding next
    store_is = ap (after s c) put_is

    abbrev there : Made
    there = made_of q (share s c)

    abbrev built : Scratch
    built = built_in q (share s c) lent

    pub placed_put : (answer : Result ℕ NotBuilt) (numbers : List ℕ) (slots : List ℤ) (starts sizes : List ℕ) (excesses : List ℤ) (doubles : List Float) (firsts counts : List ℕ)
        → (answer ≡ answer_of there)
        × ((numbers ≡ (after s c there).numbers)
        × ((slots ≡ (after s c there).slots)
        × ((starts ≡ (after s c there).starts)
        × ((sizes ≡ (after s c there).sizes)
        × ((excesses ≡ (after s c there).excesses)
        × ((doubles ≡ built.doubles)
        × ((firsts ≡ built.firsts)
        × (counts ≡ built.counts))))))))
        → Put answer numbers slots starts sizes excesses doubles firsts counts
    placed_put answer numbers slots starts sizes excesses doubles firsts counts p = (
      p.0 ∙ ap answer_of (sym put_is),
      (
        p.1.0 ∙ ap (λ (t : Store). t.numbers) (sym store_is),
        (
          p.1.1.0 ∙ ap (λ (t : Store). t.slots) (sym store_is),
          (
            p.1.1.1.0 ∙ ap (λ (t : Store). t.starts) (sym store_is),
            (
              p.1.1.1.1.0 ∙ ap (λ (t : Store). t.sizes) (sym store_is),
              (
                p.1.1.1.1.1.0 ∙ ap (λ (t : Store). t.excesses) (sym store_is),
                (
                  p.1.1.1.1.1.1.0 ∙ ap (λ (t : Scratch). t.doubles) (sym scratch_is),
                  (p.1.1.1.1.1.1.1.0 ∙ ap (λ (t : Scratch). t.firsts) (sym scratch_is), p.1.1.1.1.1.1.1.1 ∙ ap (λ (t : Scratch). t.counts) (sym scratch_is)),
                ),
              ),
            ),
          ),
        ),
      ),
    )
