-- What an accepted offer does to a set, over any store: the judge's tests say that each window is repaired, so that no excess is left and the set passes the judge of a stored
-- set again. Cited by the promises. Assumes nothing.
use Rattle.std.specs.Prelude.{Result, Ok, Err, ⊤}
use mathlib.Core.Path.{◌≡◌, refl, sym, ap, ◌∙◌, subst}
use mathlib.Core.Bool.{Bool, false, ◌||◌}
use mathlib.Core.List.{List}
use Prim.Native.Nat.{ℕ, ◌+◌, ◌*◌, ◌<◌}
use native.Mathlib.Nat.{zero-add}
use native.Mathlib.Omega.{arith}
use lib.Arith.{digits_div, digits_mod, digits_lt}
use lib.IntN.{ℤ, pos}
use lib.ListN.{length, get_or}
use borrow.Author.Tests.{lt-ltb}
use Rattle.lists.specs.Ranges.{bad_sides_value}
use Rattle.lists.specs.Tab.{any, tab}
use Rattle.lists.proofs.AnyLaws.{any_none}
use Rattle.lists.proofs.BoolLaws.{or_left, or_right}
use Rattle.lists.proofs.TabLaws.{length_tab, get_d_tab}
use Rattle.windows.specs.declared.Store.{Store}
use Rattle.windows.specs.Set.{Stored, windows, size, weight, excess_of}
use Rattle.windows.specs.Store.{bad_precision}
use Rattle.windows.specs.Fit.{Fits, bad_set, bad_excesses, bad_stored, unfit}
use Rattle.excesses.proofs.RightLaws.{right_excesses}
use Rattle.excesses.proofs.SameExcess.{excess_ext}
use Rattle.excesses.proofs.StoredLaws.{excess_count}
use Rattle.offers.proofs.RepairLaws.{repair_of}
use Rattle.offer_windows.specs.Walks.{no_excess}
use Rattle.repairs.specs.Offer.{Offer, other_set, offered_for, refused_at, not_accepted, repaired_slot}
use Rattle.repairs.specs.Answer.{accepted_of, number_of, weights_by, excesses_by, weights_of, excesses_of}
use Rattle.repairs.specs.Left.{left_set}
use Rattle.repairs.specs.Agreement.{Repairs, AcceptedRepairs, TakenOver, LeftFits, Untouched}
use Rattle.refusal.specs.declared.Refusal.{Refusal}
use Rattle.repairs.proofs.Judged.{weights_taken, excesses_taken, same_slots, whole}
use Rattle.repairs.proofs.Rows.{accepted_exactly}

none_due : (a b c d : Bool) → a ≡ false → b ≡ false → c ≡ false → d ≡ false → a || ((b || c) || d) ≡ false
none_due a b c d h i j k = rw (h, i, j, k) refl

module _ (store : Store) (s : Stored) (o : Offer) (accepted : number_of (accepted_of store s o) ≡ 0) where
  -- no test held
  pub sides : bad_sides_value s.set.layout.lines (windows s.set.layout) ≡ false
  sides = ((accepted_exactly store s o 0).0 accepted).0

  pub fine : bad_stored s store ≡ false
  fine = ((accepted_exactly store s o 0).0 accepted).1.0

  pub good : not_accepted s o store ≡ false
  good = ((accepted_exactly store s o 0).0 accepted).1.1.0

  pub fits : Fits s.set.layout (length s.set.weights)
  fits = whole store s sides fine

  -- the offer has as many weights
  pub as_many : length o.weights ≡ length s.set.weights
  as_many =
      same_slots s.set.layout.window_size_value s.precision (length s.set.weights) o.window_size_value o.precision (length o.weights) s.set.layout.starts s.set.layout.sizes o.starts o.sizes
      (or_left (other_set s o) (any (windows s.set.layout) (refused_at s o store)) good)

  pub each_repaired : (i : ℕ) → i < windows s.set.layout → Repairs store s i (offered_for s o i)
  each_repaired i l =
      repair_of store.limit s.precision (weight s.set (pos 0) i) (offered_for s o i) (size s.set.layout i)
      (any_none (refused_at s o store) (windows s.set.layout) (or_right (other_set s o) (any (windows s.set.layout) (refused_at s o store)) good) i l)

  -- what the lists hold
  pub weights_in : weights_of store s o ≡ tab 0 (length s.set.weights) (repaired_slot s o)
  weights_in = sym (weights_taken store s o sides fine good)

  pub excesses_in : excesses_of store s o ≡ tab 0 (length s.excesses) no_excess
  excesses_in = sym (excesses_taken store s o sides fine good)

  in_use : (i k : ℕ) → i < windows s.set.layout → k < size s.set.layout i → weight (left_set store s o).set (pos 0) i k ≡ offered_for s o i k
  in_use i k l m =
      let wide : k < s.set.layout.window_size_value = omega (arith, fits.small i l) in
      let place = i * s.set.layout.window_size_value + k in
      let here : place < length s.set.weights = rw fits.full (digits_lt l wide) in
      ap (λ (ws : List ℤ). get_or ws place (pos 0)) weights_in
      ∙ get_d_tab 0 (length s.set.weights) (repaired_slot s o) place (pos 0) here
      ∙ rw (zero-add place, digits_div i wide, digits_mod i wide, lt-ltb k (size s.set.layout i) m) refl

  excess_gone : (i : ℕ) → i < windows s.set.layout → excess_of (left_set store s o) i ≡ pos 0
  excess_gone i l =
      excess_ext (weight (left_set store s o).set (pos 0) i) (offered_for s o i) s.precision (size s.set.layout i) (λ k m. in_use i k l m) ∙ (each_repaired i l).exact

  pub count : length s.excesses ≡ windows s.set.layout
  count = excess_count s store fine

  listed : (i : ℕ) → i < windows s.set.layout → get_or (excesses_of store s o) i (pos 0) ≡ pos 0
  listed i l = ap (λ (es : List ℤ). get_or es i (pos 0)) excesses_in ∙ get_d_tab 0 (length s.excesses) no_excess i (pos 0) (omega (arith, count))

  -- the tests of the set that is left, one by one
  abbrev shape : Bool
  shape = bad_set s.set.layout (length s.set.weights) || bad_precision store s.precision

  same_shape : shape ≡ false
  same_shape = or_left shape (bad_excesses s) fine

  slots : bad_set s.set.layout (length (weights_of store s o)) ≡ false
  slots =
      subst (λ (n : ℕ). bad_set s.set.layout n ≡ false) (sym (ap length weights_in ∙ length_tab 0 (length s.set.weights) (repaired_slot s o)))
      (or_left (bad_set s.set.layout (length s.set.weights)) (bad_precision store s.precision) same_shape)

  right : bad_excesses (left_set store s o) ≡ false
  right =
      right_excesses (left_set store s o) (ap length excesses_in ∙ length_tab 0 (length s.excesses) no_excess ∙ count)
      (λ i l. excess_gone i l ∙ sym (listed i l))

  fits_again : unfit (left_set store s o) store ≡ false
  fits_again =
      none_due (bad_sides_value s.set.layout.lines (windows s.set.layout)) (bad_set s.set.layout (length (weights_of store s o))) (bad_precision store s.precision) (bad_excesses (left_set store s o))
      sides slots (or_right (bad_set s.set.layout (length s.set.weights)) (bad_precision store s.precision) same_shape) right

pub accepted_repairs : (store : Store) → AcceptedRepairs store
accepted_repairs store s o h i l = each_repaired store s o h i l

pub taken_over : (store : Store) → TakenOver store
taken_over store s o h i l = ((λ k m. in_use store s o h i k l m), (excess_gone store s o h i l, listed store s o h i l))

pub left_fits : (store : Store) → LeftFits store
left_fits store s o h = fits_again store s o h

pub untouched : (store : Store) → Untouched store
unfolding weights_of excesses_of weights_by excesses_by
untouched store s o other = go (accepted_of store s o) refl
  where
    go : (a : Result ⊤ Refusal) → accepted_of store s o ≡ a → (weights_by s o a ≡ s.set.weights) × (excesses_by s a ≡ s.excesses)
    go (Ok tt) e = absurd (other (ap number_of e))
    go (Err refusal) e = (refl, refl)
