-- For the customer: each of No. 1, 10 and 14 is given by the judge of an offer, and each of No. 1, 7, 10 and 14 by the offerer, exactly when its test holds and none that is judged
-- before it does, and No. 0 exactly when none holds; so for every input one row applies and no other. Over any store. Cited by docs/CONTRACTS.md. Assumes nothing.
use Rattle.std.specs.Prelude.{Ok, Err}
use mathlib.Core.Path.{◌≡◌, refl}
use mathlib.Core.Bool.{Bool, true, false, cond}
use mathlib.Core.List.{List, [], ◌∷◌}
use Prim.Native.Nat.{ℕ}
use Rattle.lists.specs.Ladder.{Exactly, given, Due}
use Rattle.lists.specs.Ranges.{bad_sides_value}
use Rattle.lists.proofs.LadderLaws.{exactly_due}
use Rattle.refusal.specs.declared.Refusal.TheVariants.{BadSide, TooFewSlots, DoesNotFit, NoOffer}
use Rattle.windows.specs.declared.DisplayLine.{DisplayLine}
use Rattle.windows.specs.declared.Store.{Store}
use Rattle.windows.specs.Set.{Stored, windows}
use Rattle.windows.specs.Fit.{bad_stored}
use Rattle.repairs.specs.Offer.{Offer, not_accepted}
use Rattle.repairs.specs.Answer.{accepted_of, number_of, first_lacking, too_few_slots, not_found, offered_of, offered_number}
use Rattle.repairs.specs.declared.NotOffered.TheVariants.{NotFound, Refused as NotMade}

numbered : (a b c : Bool) → number_of (cond a (Err BadSide) (cond b (Err DoesNotFit) (cond c (Err NoOffer) (Ok tt)))) ≡ cond a 1 (cond b 10 (cond c 14 0))
numbered true b c = refl
numbered false true c = refl
numbered false false true = refl
numbered false false false = refl

made_numbered : (a b c d : Bool) (line : DisplayLine) → offered_number (cond a (Err (NotMade BadSide)) (cond b (Err (NotMade TooFewSlots)) (cond c (Err (NotMade DoesNotFit)) (cond d (Err (NotFound line)) (Ok tt))))) ≡ cond a 1 (cond b 7 (cond c 10 (cond d 14 0)))
made_numbered true b c d line = refl
made_numbered false true c d line = refl
made_numbered false false true d line = refl
made_numbered false false false true line = refl
made_numbered false false false false line = refl

module _ (store : Store) (s : Stored) (o : Offer) where
  -- the judge's tests in their order, each with its number: sides; the stored set; the offer
  abbrev pub rows : List (Bool × ℕ)
  rows =
      (bad_sides_value s.set.layout.lines (windows s.set.layout), 1)
      ∷ (bad_stored s store, 10)
      ∷ (not_accepted s o store, 14)
      ∷ []

  is : number_of (accepted_of store s o) ≡ given rows
  unfolding accepted_of
  is = numbered (bad_sides_value s.set.layout.lines (windows s.set.layout)) (bad_stored s store) (not_accepted s o store)

  pub accepted_exactly : (n : ℕ) → Exactly (number_of (accepted_of store s o) ≡ n) (Due n rows)
  accepted_exactly n = rw is (exactly_due n rows refl)

module _ (store : Store) (s : Stored) (room : ℕ) where
  -- the offerer's: sides; slots lent; the stored set; a window that has no offer
  abbrev pub offer_rows : List (Bool × ℕ)
  offer_rows =
      (bad_sides_value s.set.layout.lines (windows s.set.layout), 1)
      ∷ (too_few_slots store s room, 7)
      ∷ (bad_stored s store, 10)
      ∷ (not_found store s, 14)
      ∷ []

  made_is : offered_number (offered_of store s room) ≡ given offer_rows
  unfolding offered_of
  made_is = made_numbered (bad_sides_value s.set.layout.lines (windows s.set.layout)) (too_few_slots store s room) (bad_stored s store) (not_found store s) (record { 0 = first_lacking store s })

  pub offered_exactly : (n : ℕ) → Exactly (offered_number (offered_of store s room) ≡ n) (Due n offer_rows)
  offered_exactly n = rw made_is (exactly_due n offer_rows refl)
