-- What the judge and the offerer promise each other and the set, over any store. Proved in this crate, cited by the promises. Statements only. Assumes nothing.
use Rattle.std.specs.Prelude.{◌≡◌, false, List, ℕ, ◌+◌, ◌*◌, ◌^◌, ◌≤◌, ◌<◌, ℤ, pos, length, get_or}
use Rattle.std.specs.Int.Signed.{mag}
use Rattle.lists.specs.Ladder.{Exactly}
use Rattle.orders.specs.Count.{count}
use Rattle.windows.specs.declared.Store.{Store}
use Rattle.windows.specs.Set.{Stored, windows, size, weight, excess_of}
use Rattle.windows.specs.Fit.{unfit}
use Rattle.offers.specs.Repair.{Repair, changed}
use Rattle.repairs.specs.Offer.{Offer, offered_for}
use Rattle.repairs.specs.Answer.{accepted_of, number_of, weights_of, excesses_of, offered_of, offered_number, offered_line, written_of}
use Rattle.repairs.specs.Left.{left_set, left_offer}

module _ (store : Store) where
  -- the stored weights are of the store's type, as those of a lent list are
  abbrev pub Typed : Stored → Type 0
  Typed s = (k : ℕ) → k < length s.set.weights → mag (get_or s.set.weights k (pos 0)) < 2 ^ store.limit

  -- the weights v repair window i
  abbrev pub Repairs : Stored → ℕ → (ℕ → ℤ) → Type 0
  Repairs s i v = Repair store.limit s.precision (weight s.set (pos 0) i) v (size s.set.layout i)

  -- an offer that is accepted repairs every window
  abbrev pub AcceptedRepairs : Type 0
  AcceptedRepairs = (s : Stored) (o : Offer) → number_of (accepted_of store s o) ≡ 0 → (i : ℕ) → i < windows s.set.layout → Repairs s i (offered_for s o i)

  -- afterwards the weights in use are the offered ones, and no window has an excess, by its weights and by the list
  abbrev pub TakenOver : Type 0
  TakenOver =
      (s : Stored) (o : Offer) → number_of (accepted_of store s o) ≡ 0 → (i : ℕ) → i < windows s.set.layout
      → ((k : ℕ) → k < size s.set.layout i → weight (left_set store s o).set (pos 0) i k ≡ offered_for s o i k)
      × ((excess_of (left_set store s o) i ≡ pos 0) × (get_or (left_set store s o).excesses i (pos 0) ≡ pos 0))

  -- what is left passes the judge of a stored set
  abbrev pub LeftFits : Type 0
  LeftFits = (s : Stored) (o : Offer) → number_of (accepted_of store s o) ≡ 0 → unfit (left_set store s o) store ≡ false

  -- any other answer leaves both lists as they were
  abbrev pub Untouched : Type 0
  Untouched = (s : Stored) (o : Offer) → (number_of (accepted_of store s o) ≡ 0 → ⊥) → (weights_of store s o ≡ s.set.weights) × (excesses_of store s o ≡ s.excesses)

  -- any other answer of the offerer than 0 leaves its list as it was
  abbrev pub Unwritten : Type 0
  Unwritten = (s : Stored) (old : List ℤ) → (offered_number (offered_of store s (length old)) ≡ 0 → ⊥) → written_of store s old ≡ old

  -- the judge accepts whatever the offerer gives, and the weights in use are then those of the offerer's list
  abbrev pub OwnAccepted : Type 0
  OwnAccepted =
      (s : Stored) (old : List ℤ) → Typed s → offered_number (offered_of store s (length old)) ≡ 0
      → (number_of (accepted_of store s (left_offer store s old)) ≡ 0)
      × ((i k : ℕ) → i < windows s.set.layout → k < size s.set.layout i
      → weight (left_set store s (left_offer store s old)).set (pos 0) i k ≡ get_or (written_of store s old) (i * s.set.layout.window_size_value + k) (pos 0))

  -- for a set that fits and a list that is long enough, the offerer answers 14 exactly where no offer is accepted
  abbrev pub Complete : Type 0
  Complete =
      (s : Stored) (room : ℕ) → Typed s → unfit s store ≡ false → windows s.set.layout * s.set.layout.window_size_value ≤ room
      → Exactly (offered_number (offered_of store s room) ≡ 14) ((o : Offer) → number_of (accepted_of store s o) ≡ 0 → ⊥)

  -- its line is then the first window that nothing repairs: each before it can be repaired
  abbrev pub FirstLine : Type 0
  FirstLine =
      (s : Stored) (room : ℕ) → Typed s → offered_number (offered_of store s room) ≡ 14
      → (offered_line (offered_of store s room) < windows s.set.layout)
      × (((v : ℕ → ℤ) → Repairs s (offered_line (offered_of store s room)) v → ⊥)
      × ((i : ℕ) → i < offered_line (offered_of store s room) → (v : ℕ → ℤ) × Repairs s i v))

  -- no accepted offer changes fewer weights of a window than ours
  abbrev pub LeastChanged : Type 0
  LeastChanged =
      (s : Stored) (old : List ℤ) (o : Offer) → offered_number (offered_of store s (length old)) ≡ 0 → number_of (accepted_of store s o) ≡ 0
      → (i : ℕ) → i < windows s.set.layout
      → count (changed (weight s.set (pos 0) i) (offered_for s (left_offer store s old) i)) (size s.set.layout i)
      ≤ count (changed (weight s.set (pos 0) i) (offered_for s o i)) (size s.set.layout i)
