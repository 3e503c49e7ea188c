-- The answers of the judge of an offer and of the offerer, in the order 1, 7, 10, 14, and what their lists hold afterwards. s is the stored set, o the offer. Cited by
-- their contracts and by the promises. Definitions only. Assumes nothing.
use Rattle.std.specs.Prelude.{Bool, cond, List, ℕ, ◌*◌, ltb, ℤ, pos, length, Result, Ok, Err, ⊤}
use Rattle.lists.specs.Ranges.{bad_sides_value}
use Rattle.lists.specs.Tab.{tab, front, first, grid}
use Rattle.refusal.specs.Refusal.{number_of as numberOfRefusal, answer_number, number_in}
use Rattle.refusal.specs.declared.Refusal.TheVariants.{BadSide, TooFewSlots, DoesNotFit, NoOffer}
use Rattle.windows.specs.declared.Store.{Store}
use Rattle.windows.specs.Set.{Stored, windows, size, weight, excess_of}
use Rattle.windows.specs.Fit.{bad_stored}
use Rattle.offers.specs.Own.{no_repair, offered_slot}
use Rattle.offer_windows.specs.Walks.{no_excess}
use Rattle.repairs.specs.Offer.{Offer, not_accepted, repaired_slot}
use Rattle.refusal.specs.declared.Refusal.{Refusal}
use Rattle.repairs.specs.declared.NotOffered.{NotOffered}
use Rattle.repairs.specs.declared.NotOffered.TheVariants.{NotFound, Refused as NotMade}

-- ---- the judge

unfoldable pub accepted_of : Store → Stored → Offer → Result ⊤ Refusal
accepted_of store s o =
    cond (bad_sides_value s.set.layout.lines (windows s.set.layout)) (Err BadSide)
    (cond (bad_stored s store) (Err DoesNotFit)
    (cond (not_accepted s o store) (Err NoOffer)
    (Ok tt)))

-- the weights and the excesses after an answer: taken over, the offered weights in use and no excess; refused, unchanged
unfoldable pub weights_by : Stored → Offer → Result ⊤ Refusal → List ℤ
weights_by s o (Ok tt) = tab 0 (length s.set.weights) (repaired_slot s o)
weights_by s o (Err refusal) = s.set.weights

unfoldable pub excesses_by : Stored → Result ⊤ Refusal → List ℤ
excesses_by s (Ok tt) = tab 0 (length s.excesses) no_excess
excesses_by s (Err refusal) = s.excesses

unfoldable pub weights_of : Store → Stored → Offer → List ℤ
weights_of store s o = weights_by s o (accepted_of store s o)

unfoldable pub excesses_of : Store → Stored → Offer → List ℤ
excesses_of store s o = excesses_by s (accepted_of store s o)

-- ---- the offerer

module _ (store : Store) (s : Stored) where
  -- window i has no offer; and the first that has none, the count of windows where each has one
  abbrev pub lacking : ℕ → Bool
  lacking i = no_repair store.limit (excess_of s i) (weight s.set (pos 0) i) (size s.set.layout i)

  abbrev pub first_lacking : ℕ
  first_lacking = first lacking 0 (windows s.set.layout)

  -- slot k of window i of our own offer
  abbrev pub offered_at : ℕ → ℕ → ℤ
  offered_at i = offered_slot store.limit (excess_of s i) (weight s.set (pos 0) i) (size s.set.layout i)

  -- No. 7: a list of so many slots is shorter than windows x window size
  abbrev pub too_few_slots : ℕ → Bool
  too_few_slots room = ltb room (windows s.set.layout * s.set.layout.window_size_value)

  -- No. 14: some window has no offer
  abbrev pub not_found : Bool
  not_found = ltb first_lacking (windows s.set.layout)

  unfoldable pub offered_of : ℕ → Result ⊤ NotOffered
  offered_of room =
      cond (bad_sides_value s.set.layout.lines (windows s.set.layout)) (Err (NotMade BadSide))
      (cond (too_few_slots room) (Err (NotMade TooFewSlots))
      (cond (bad_stored s store) (Err (NotMade DoesNotFit))
      (cond not_found (Err (NotFound (record { 0 = first_lacking })))
      (Ok tt))))

  -- the list after an answer: made, the offer in its first slots and those past it unchanged; else all unchanged
  unfoldable pub written_by : Result ⊤ NotOffered → List ℤ → List ℤ
  written_by (Ok tt) old = front (windows s.set.layout * s.set.layout.window_size_value) (grid s.set.layout.window_size_value offered_at) old
  written_by (Err error) old = old

  unfoldable pub written_of : List ℤ → List ℤ
  written_of old = written_by (offered_of (length old)) old

-- ---- the numbers of the answers, and the line beside one

abbrev pub number_of : Result ⊤ Refusal → ℕ
number_of = number_in

-- the number of an offer that was not made
abbrev pub not_offered_number : NotOffered → ℕ
not_offered_number (NotFound line) = numberOfRefusal NoOffer
not_offered_number (NotMade refusal) = numberOfRefusal refusal

abbrev pub offered_number : Result ⊤ NotOffered → ℕ
offered_number = answer_number not_offered_number

abbrev pub offered_line : Result ⊤ NotOffered → ℕ
offered_line (Ok tt) = 0
offered_line (Err (NotFound line)) = line.0
offered_line (Err (NotMade refusal)) = 0
