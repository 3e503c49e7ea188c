-- For the customer: each of No. 1, 7, 10 and 9 is given by a normaliser exactly when its test holds and none that is judged before it does, and No. 0 exactly when
-- none holds; so for every input one row applies and no other. Over any store. Cited by docs/CONTRACTS.md. Assumes nothing.
use Rattle.std.specs.Prelude.{Ok, Err}
use mathlib.Core.Path.{◌≡◌, refl}
use mathlib.Core.Bool.{Bool, true, false, cond}
use mathlib.Core.List.{List, [], ◌∷◌}
use Prim.Native.Nat.{ℕ}
use lib.ListN.{length}
use lib.Ieee.{Float}
use Rattle.lists.specs.Ladder.{Exactly, given, Due}
use Rattle.lists.specs.Ranges.{bad_sides_value}
use Rattle.lists.proofs.LadderLaws.{exactly_due}
use Rattle.refusal.specs.declared.Refusal.TheVariants.{BadSide, TooFewSlots, DoesNotFit, WeightOutside}
use Rattle.windows.specs.declared.Store.{Store}
use Rattle.windows.specs.Set.{Set, windows}
use Rattle.windows.specs.Fit.{bad_set}
use Rattle.weight_precision.specs.Precision.{precision}
use Rattle.normalizer.specs.Answer.{too_few_slots, bad_weights, normalized_of, number_of}

numbered : (a b c d : Bool) (p : ℕ) → number_of (cond a (Err BadSide) (cond b (Err TooFewSlots) (cond c (Err DoesNotFit) (cond d (Err WeightOutside) (Ok p))))) ≡ cond a 1 (cond b 7 (cond c 10 (cond d 9 0)))
numbered true b c d p = refl
numbered false true c d p = refl
numbered false false true d p = refl
numbered false false false true p = refl
numbered false false false false p = refl

module _ (store : Store) (s : Set Float) (room places : ℕ) where
  -- the tests in the order of judging, each with its number: sides; slots lent; lists and windows; weights
  abbrev pub rows : List (Bool × ℕ)
  rows =
      (bad_sides_value s.layout.lines (windows s.layout), 1)
      ∷ (too_few_slots store s room places, 7)
      ∷ (bad_set s.layout (length s.weights), 10)
      ∷ (bad_weights store s room places, 9)
      ∷ []

  is : number_of (normalized_of store s room places) ≡ given rows
  unfolding normalized_of
  is = numbered (bad_sides_value s.layout.lines (windows s.layout)) (too_few_slots store s room places) (bad_set s.layout (length s.weights)) (bad_weights store s room places) (precision store s.weights)

  pub normalized_exactly : (n : ℕ) → Exactly (number_of (normalized_of store s room places) ≡ n) (Due n rows)
  normalized_exactly n = rw is (exactly_due n rows refl)
