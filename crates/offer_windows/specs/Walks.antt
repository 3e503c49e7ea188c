-- Offers as a walk over the windows reads them: `window` slots of ws for each window, sizes and excesses in lists beside, os the offered weights. Cited by the contracts of
-- `offer_windows` and by the answers of `repairs`. Definitions only. Assumes nothing.
use Rattle.std.specs.Prelude.{Bool, cond, List, ℕ, ◌*◌, ℤ, pos, get_or}
use Rattle.windows.specs.Set.{in_use_value}
use Rattle.excesses.specs.Slots.{slot_from}
use Rattle.offers.specs.Repair.{bad_repair}
use Rattle.offers.specs.Own.{no_repair, offered_slot}

-- the offered weights of window i do not repair it
abbrev pub refused_in : ℕ → ℕ → ℕ → List ℤ → List ℤ → List ℕ → ℕ → Bool
refused_in limit p window ws os sizes i = bad_repair limit p (slot_from ws (i * window)) (slot_from os (i * window)) (get_or sizes i 0)

-- window i has no offer
abbrev pub lacking_in : ℕ → ℕ → List ℤ → List ℕ → List ℤ → ℕ → Bool
lacking_in limit window ws sizes excesses i = no_repair limit (get_or excesses i (pos 0)) (slot_from ws (i * window)) (get_or sizes i 0)

-- the slots of window i of our own offer
abbrev pub offered_in : ℕ → ℕ → List ℤ → List ℕ → List ℤ → ℕ → ℕ → ℤ
offered_in limit window ws sizes excesses i = offered_slot limit (get_or excesses i (pos 0)) (slot_from ws (i * window)) (get_or sizes i 0)

-- slot k where an offer is taken over: the offered weight where the slot is in use, else the stored one
abbrev pub replaced_in : ℕ → List ℤ → List ℤ → List ℕ → ℕ → ℤ
replaced_in window ws os sizes k = cond (in_use_value window sizes k) (get_or os k (pos 0)) (get_or ws k (pos 0))

-- an excess after an offer was taken over
abbrev pub no_excess : ℕ → ℤ
no_excess i = pos 0
