-- An offer of changed weights, what it has that must be as it is stored, and when it is not accepted. Cited by the contracts of `repairs` and by the promises. Definitions
-- only. Assumes nothing.
use Rattle.std.specs.Prelude.{Bool, not, ◌||◌, List, ℕ, eqb, ℤ, pos, length, get_or}
use Rattle.lists.specs.Tab.{any}
use Rattle.windows.specs.declared.Store.{Store}
use Rattle.windows.specs.Set.{Stored, set_of, windows, size, weight}
use Rattle.offers.specs.Repair.{bad_repair}
use Rattle.offer_windows.specs.Walks.{replaced_in}

-- the windows and the precision that the offer is for, and a weight for each slot. The weights of idle slots are not looked at
pub record Offer : Type 0 where
  pub window_size_value : ℕ
  pub precision : ℕ
  pub starts : List ℕ
  pub sizes : List ℕ
  pub weights : List ℤ

abbrev pub offer_of : ℕ → ℕ → List ℕ → List ℕ → List ℤ → Offer
offer_of window_size_value precision starts sizes weights = record {
  window_size_value = window_size_value;
  precision = precision;
  starts = starts;
  sizes = sizes;
  weights = weights;
}

-- two lists differ: in their lengths or at an index
unfoldable pub unlike : List ℕ → List ℕ → Bool
unlike a b = not (eqb (length a) (length b)) || any (length a) (λ k. not (eqb (get_or a k 0) (get_or b k 0)))

-- an offer's window size, precision, starts, sizes or count of slots, with a prime, is not the stored one
abbrev pub other_shape : ℕ → ℕ → List ℕ → List ℕ → ℕ → ℕ → ℕ → List ℕ → List ℕ → ℕ → Bool
other_shape window_size_value precision starts sizes slots windowSize' precision' starts' sizes' slots' =
    (((not (eqb windowSize' window_size_value) || not (eqb precision' precision)) || unlike starts' starts) || unlike sizes' sizes) || not (eqb slots' slots)

module _ (s : Stored) (o : Offer) where
  -- the offer is for another set
  abbrev pub other_set : Bool
  other_set =
      other_shape s.set.layout.window_size_value s.precision s.set.layout.starts s.set.layout.sizes (length s.set.weights)
      o.window_size_value o.precision o.starts o.sizes (length o.weights)

  -- the weight that is offered for line k of window i
  abbrev pub offered_for : ℕ → ℕ → ℤ
  offered_for = weight (set_of s.set.layout o.weights) (pos 0)

  -- those of window i do not repair it
  abbrev pub refused_at : Store → ℕ → Bool
  refused_at store i = bad_repair store.limit s.precision (weight s.set (pos 0) i) (offered_for i) (size s.set.layout i)

  -- No. 14: the offer is for another set, or does not repair some window
  abbrev pub not_accepted : Store → Bool
  not_accepted store = other_set || any (windows s.set.layout) (refused_at store)

  -- slot k where the offer is taken over: the offered weight where the slot is in use, else the stored one
  abbrev pub repaired_slot : ℕ → ℤ
  repaired_slot = replaced_in s.set.layout.window_size_value s.set.weights o.weights s.set.layout.sizes
