-- The answers of the judge and of the offerer, test by test, what their lists hold where they answer 0, and what is true of a stored set where neither No. 1 nor No. 10 is due.
-- Over any store. Cited by the judges and by the four public functions. Assumes nothing.
use Rattle.std.specs.Prelude.{Result, Ok, Err, ⊤}
use mathlib.Core.Path.{◌≡◌, refl, sym, ap, ◌∙◌}
use mathlib.Core.Bool.{Bool, true, false, not, ◌||◌}
use mathlib.Core.List.{List, ◌++◌}
use Prim.Native.Nat.{ℕ, ◌*◌, ◌/◌, ◌^◌, ◌≤◌, ◌<◌}
use native.Mathlib.Nat.{zero-add, div-lt_iff_lt-mul, lt_of_le_of_lt, le_of_lt, mul-le-mul}
use native.Mathlib.Omega.{arith}
use lib.Dec.{eqb, lit<}
use lib.IntN.{ℤ, pos}
use lib.ListN.{length, get_or, drop}
use borrow.Author.Tests.{lt-ltb, le-ltb, eqb-true, not-false}
use Rattle.lists.specs.Ranges.{bad_sides_value}
use Rattle.lists.specs.Tab.{tab, front, first, grid}
use Rattle.lists.proofs.BoolLaws.{or_right}
use Rattle.lists.proofs.RangeLaws.{second_side}
use Rattle.lists.proofs.TabLaws.{tab_ext}
use Rattle.refusal.specs.declared.Refusal.TheVariants.{BadSide, TooFewSlots, DoesNotFit, NoOffer}
use Rattle.windows.specs.declared.Store.{Store}
use Rattle.windows.specs.Set.{Stored, windows, excess_of}
use Rattle.windows.specs.Fit.{Fits, InSlots, bad_stored}
use Rattle.windows.proofs.Fits.{in_slots}
use Rattle.excesses.proofs.RightLaws.{right_excess, judged_excesses}
use Rattle.excesses.proofs.StoredLaws.{stored_fits}
use Rattle.orders.proofs.FirstOrders.{first_ext}
use Rattle.offer_windows.specs.Walks.{lacking_in, offered_in, no_excess}
use Rattle.repairs.specs.Offer.{Offer, unlike, other_shape, not_accepted, repaired_slot}
use Rattle.repairs.specs.Answer.{accepted_of, weights_by, excesses_by, weights_of, excesses_of, lacking, first_lacking, offered_at, offered_of, written_by, written_of}
use Rattle.repairs.specs.declared.NotOffered.{NotOffered}
use Rattle.repairs.specs.declared.NotOffered.TheVariants.{NotFound, Refused as NotMade}

-- ---- the judge's answer

module _ (store : Store) (s : Stored) (o : Offer) where
  pub judged_1 : bad_sides_value s.set.layout.lines (windows s.set.layout) ≡ true → Err BadSide ≡ accepted_of store s o
  unfolding accepted_of
  judged_1 h = rw h

  module _ (h1 : bad_sides_value s.set.layout.lines (windows s.set.layout) ≡ false) where
    pub judged_10 : bad_stored s store ≡ true → Err DoesNotFit ≡ accepted_of store s o
    unfolding accepted_of
    judged_10 h = rw (h1, h)

    module _ (h10 : bad_stored s store ≡ false) where
      pub judged_14 : not_accepted s o store ≡ true → Err NoOffer ≡ accepted_of store s o
      unfolding accepted_of
      judged_14 h = rw (h1, h10, h)

      pub judged_0 : not_accepted s o store ≡ false → Ok tt ≡ accepted_of store s o
      unfolding accepted_of
      judged_0 h = rw (h1, h10, h)

      -- and the two lists then
      pub weights_taken : not_accepted s o store ≡ false → tab 0 (length s.set.weights) (repaired_slot s o) ≡ weights_of store s o
      unfolding weights_of weights_by
      weights_taken h = rw (← judged_0 h) refl

      pub excesses_taken : not_accepted s o store ≡ false → tab 0 (length s.excesses) no_excess ≡ excesses_of store s o
      unfolding excesses_of excesses_by
      excesses_taken h = rw (← judged_0 h) refl

-- ---- the offerer's answer

module _ (store : Store) (s : Stored) (room : ℕ) where
  pub answered_1 : bad_sides_value s.set.layout.lines (windows s.set.layout) ≡ true → Err (NotMade BadSide) ≡ offered_of store s room
  unfolding offered_of
  answered_1 h1 = rw h1

  module _ (h1 : bad_sides_value s.set.layout.lines (windows s.set.layout) ≡ false) where
    pub answered_7 : room < windows s.set.layout * s.set.layout.window_size_value → Err (NotMade TooFewSlots) ≡ offered_of store s room
    unfolding offered_of
    answered_7 l = rw (h1, lt-ltb room (windows s.set.layout * s.set.layout.window_size_value) l)

    module _ (h7 : windows s.set.layout * s.set.layout.window_size_value ≤ room) where
      pub answered_10 : bad_stored s store ≡ true → Err (NotMade DoesNotFit) ≡ offered_of store s room
      unfolding offered_of
      answered_10 h10 = rw (h1, le-ltb room (windows s.set.layout * s.set.layout.window_size_value) h7, h10)

      module _ (h10 : bad_stored s store ≡ false) where
        pub answered_14 : first_lacking store s < windows s.set.layout → Err (NotFound (record { 0 = first_lacking store s })) ≡ offered_of store s room
        unfolding offered_of
        answered_14 l = rw (h1, le-ltb room (windows s.set.layout * s.set.layout.window_size_value) h7, h10, lt-ltb (first_lacking store s) (windows s.set.layout) l)

        pub answered_0 : windows s.set.layout ≤ first_lacking store s → Ok tt ≡ offered_of store s room
        unfolding offered_of
        answered_0 l = rw (h1, le-ltb room (windows s.set.layout * s.set.layout.window_size_value) h7, h10, le-ltb (first_lacking store s) (windows s.set.layout) l)

-- and its list where an offer is made
pub offer_written : (store : Store) (s : Stored) (old : List ℤ) → Ok tt ≡ offered_of store s (length old) → front (windows s.set.layout * s.set.layout.window_size_value) (grid s.set.layout.window_size_value (offered_at store s)) old ≡ written_of store s old
unfolding written_of written_by
offer_written store s old made = ap (λ (answer : Result ⊤ NotOffered). written_by store s answer old) made

-- windows x window size is a machine number
pub slots_fit : (lines windows window_size_value : ℕ) → bad_sides_value lines windows ≡ false → window_size_value < 2 ^ 32 → windows * window_size_value < 2 ^ 64
slots_fit lines windows window_size_value h w =
    let most : 8192 * 2 ^ 32 < 2 ^ 64 = lit< tt in
    lt_of_le_of_lt (mul-le-mul (second_side lines windows h).most (le_of_lt w)) most

-- ---- the two tests of No. 14

pub or_one : (a b : Bool) → a ≡ true → a || b ≡ true
or_one a b h = rw h refl

pub or_two : (a b : Bool) → a ≡ false → b ≡ true → a || b ≡ true
or_two a b h k = rw (h, k) refl

pub or_none : (a b : Bool) → a ≡ false → b ≡ false → a || b ≡ false
or_none a b h k = rw (h, k) refl

-- what a call said of two shapes, the counts of slots said otherwise
pub shape_is : (window_size_value precision slots m windowSize' precision' slots' m' : ℕ) (starts sizes starts' sizes' : List ℕ) {r : Bool} → r ≡ other_shape window_size_value precision starts sizes slots windowSize' precision' starts' sizes' slots' → slots ≡ m → slots' ≡ m'
    → r ≡ other_shape window_size_value precision starts sizes m windowSize' precision' starts' sizes' m'
shape_is window_size_value precision slots m windowSize' precision' slots' m' starts sizes starts' sizes' er e e' = er ∙ rw (e, e') refl

-- an offer of the stored shape has as many weights
pub same_slots : (window_size_value precision slots windowSize' precision' slots' : ℕ) (starts sizes starts' sizes' : List ℕ) → other_shape window_size_value precision starts sizes slots windowSize' precision' starts' sizes' slots' ≡ false → slots' ≡ slots
same_slots window_size_value precision slots windowSize' precision' slots' starts sizes starts' sizes' h =
    let before = ((not (eqb windowSize' window_size_value) || not (eqb precision' precision)) || unlike starts' starts) || unlike sizes' sizes in
    eqb-true slots' slots (not-false (eqb slots' slots) (or_right before (not (eqb slots' slots)) h))

-- ---- a stored set that fits

front_ext : (n : ℕ) (f g : ℕ → ℤ) (old : List ℤ) → ((i : ℕ) → i < n → f i ≡ g i) → front n f old ≡ front n g old
unfolding front
front_ext n f g old h = ap (λ (l : List ℤ). l ++ drop n old) (tab_ext 0 n f g (λ i l. rw zero-add (h i l)))

module _ (store : Store) (s : Stored) (sides : bad_sides_value s.set.layout.lines (windows s.set.layout) ≡ false) (fine : bad_stored s store ≡ false) where
  pub whole : Fits s.set.layout (length s.set.weights)
  whole = stored_fits s store fine sides

  pub inside : InSlots s.set.layout.window_size_value s.set.layout.sizes (length s.set.weights)
  inside = in_slots s.set.layout (length s.set.weights) whole (length s.set.weights) (omega arith)

  -- the excess beside a window is the window's
  right : (i : ℕ) → i < windows s.set.layout → excess_of s i ≡ get_or s.excesses i (pos 0)
  right = right_excess s (judged_excesses s store fine)

  -- so the search over the lists is the definition's
  pub lacking_is : first (lacking_in store.limit s.set.layout.window_size_value s.set.weights s.set.layout.sizes s.excesses) 0 (length s.set.layout.sizes) ≡ first_lacking store s
  lacking_is =
      let test = lacking_in store.limit s.set.layout.window_size_value s.set.weights s.set.layout.sizes s.excesses in
      ap (λ (n : ℕ). first test 0 n) (sym whole.pairs) ∙ first_ext test (lacking store s) 0 (windows s.set.layout) (λ i l m. rw (right i (omega (arith, m))) refl)

  -- and the offer made from them
  pub offer_is : (old : List ℤ) → front (length s.set.layout.sizes * s.set.layout.window_size_value) (grid s.set.layout.window_size_value (offered_in store.limit s.set.layout.window_size_value s.set.weights s.set.layout.sizes s.excesses)) old ≡ front (windows s.set.layout * s.set.layout.window_size_value) (grid s.set.layout.window_size_value (offered_at store s)) old
  offer_is old =
      let size = s.set.layout.window_size_value in
      let f = grid size (offered_in store.limit size s.set.weights s.set.layout.sizes s.excesses) in
      ap (λ (n : ℕ). front (n * size) f old) (sym whole.pairs)
      ∙ front_ext (windows s.set.layout * size) f (grid size (offered_at store s)) old (λ k l. rw (right (k / size) ((div-lt_iff_lt-mul whole.some_slot).1 l)) refl)
