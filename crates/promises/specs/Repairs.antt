-- "An offer is judged, and every flat frame comes out unchanged."
-- What the judge of an offer and the offerer promise each other (each statement in specs/Agreement.antt of repairs, over any store), and what the passes do with the set that an
-- accepted offer leaves. No premise on the weights is left there: the acceptance is it. Statements only. Assumes nothing.
use Rattle.std.specs.Prelude.{◌≡◌, List, ℕ, ◌*◌, ◌≤◌, length, Result, ⊤}
use Rattle.lists.specs.Tab.{tab}
use Rattle.windows.specs.declared.Store.{Store}
use Rattle.windows.specs.Set.{Stored, windows}
use Rattle.windows.specs.Store.{store16}
use Rattle.windows.specs.Fit.{bad_stored}
use Rattle.refusal.specs.declared.Refusal.{Refusal}
use Rattle.vertical.specs.Passed.{number_of}
use Rattle.vertical.specs.U16.{passed_u16, written_u16}
use Rattle.vertical_u8.specs.U8.{passed_u8, written_u8}
use Rattle.repairs.specs.Offer.{Offer}
use Rattle.repairs.specs.Answer.{accepted_of, number_of as acceptedNumber}
use Rattle.repairs.specs.Left.{left_set}
use Rattle.repairs.specs.Agreement.{AcceptedRepairs, TakenOver, LeftFits, OwnAccepted, Complete, FirstLine, LeastChanged}
use Rattle.promises.specs.FlatFrames.{Flat}

pub record RepairsAgree (store : Store) : Type 0 where
  pub accepted_repairs : AcceptedRepairs store
  pub taken_over : TakenOver store
  pub left_fits : LeftFits store
  pub own_accepted : OwnAccepted store
  pub complete : Complete store
  pub first_line : FirstLine store
  pub least_changed : LeastChanged store

-- a pass with samples up to M, over the set that an accepted offer leaves, wherever it does not refuse: v in every place
module _ (store : Store) (M : ℕ) (passed : Stored → ℕ → ℕ → ℕ → ℕ → ℕ → Result ⊤ Refusal) (written : Stored → List ℕ → ℕ → ℕ → ℕ → List ℕ → List ℕ) where
  abbrev pub FlatRepairedOf : Type 0
  FlatRepairedOf =
      (s : Stored) (o : Offer) (src : List ℕ) (row first count : ℕ) (old : List ℕ) (v : ℕ)
      → acceptedNumber (accepted_of store s o) ≡ 0 → number_of (passed (left_set store s o) (length src) row first count (length old)) ≡ 0 → v ≤ M → Flat v src
      → written (left_set store s o) src row first count old ≡ tab 0 (windows s.set.layout * count) (λ k. v)

-- the u16 pass with a set of either store, and the u8 pass with one of 16 bits
abbrev pub FlatRepaired : Type 0
FlatRepaired = (store : Store) → FlatRepairedOf store 65535 passed_u16 written_u16

abbrev pub FlatRepairedU8 : Type 0
FlatRepairedU8 = FlatRepairedOf store16 255 passed_u8 written_u8

-- the repaired set fits where the stored one did; so the u16 pass refuses with it what it refused before, for the same reason. (The u8 pass may refuse a repaired window with
-- No. 9, since weights that grew by 1 can pass its 2^31 - 1)
abbrev pub SameFit : Type 0
SameFit = (store : Store) (s : Stored) (o : Offer) → acceptedNumber (accepted_of store s o) ≡ 0 → (other : Store) → bad_stored (left_set store s o) other ≡ bad_stored s other

abbrev pub SameRefusals : Type 0
SameRefusals =
    (store : Store) (s : Stored) (o : Offer) → acceptedNumber (accepted_of store s o) ≡ 0
    → (samples row first count room : ℕ) → passed_u16 (left_set store s o) samples row first count room ≡ passed_u16 s samples row first count room
