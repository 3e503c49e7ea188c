-- Offers by hand, computed on the definitions in the 16-bit store. Three equal weights of 21845 at precision 16 lack 1, and the first goes up; where the first is at the end of its
-- type the next one goes; where none can there is no offer. Assumes nothing.
use Rattle.std.specs.Prelude.{Ok, Err}
use mathlib.Core.Path.{◌≡◌, refl}
use mathlib.Core.List.{List, [], ◌∷◌}
use Prim.Native.Nat.{ℕ}
use lib.IntN.{ℤ, pos, negsuc}
use Rattle.integers.specs.Sums.{sum}
use Rattle.refusal.specs.declared.Refusal.TheVariants.{NoOffer}
use Rattle.windows.specs.Set.{Stored, layout_of, set_of, stored_of, excess}
use Rattle.windows.specs.Store.{store16}
use Rattle.repairs.specs.Offer.{Offer, offer_of, unlike}
use Rattle.repairs.specs.Answer.{accepted_of, weights_by, excesses_by, weights_of, excesses_of, offered_of, written_by, written_of}
use Rattle.repairs.specs.declared.NotOffered.TheVariants.{NotFound}
use Rattle.lists.specs.Tab.{front}

-- one window of n lines, with a fourth slot that is idle and holds 7
abbrev one : ℕ → List ℤ → ℕ → ℤ → Stored
one n weights precision e = stored_of (set_of (layout_of n 4 (0 ∷ []) (n ∷ [])) weights) precision (e ∷ [])

abbrev thirds : Stored
thirds = one 3 (pos 21845 ∷ pos 21845 ∷ pos 21845 ∷ pos 7 ∷ []) 16 (negsuc 0)

abbrev lent : List ℤ
lent = pos 1 ∷ pos 1 ∷ pos 1 ∷ pos 1 ∷ pos 1 ∷ []

abbrev offer : List ℤ → Offer
offer weights = offer_of 4 16 (0 ∷ []) (3 ∷ []) weights

-- our own offer, its idle slot 0 and the slot past it as it was; and the set after it is taken over, its idle slot as it was
pub offered : (offered_of store16 thirds 5 ≡ Ok tt) × (written_of store16 thirds lent ≡ pos 21846 ∷ pos 21845 ∷ pos 21845 ∷ pos 0 ∷ pos 1 ∷ [])
unfolding offered_of written_of written_by excess sum front
offered = (refl, refl)

abbrev own : Offer
own = offer (pos 21846 ∷ pos 21845 ∷ pos 21845 ∷ pos 0 ∷ [])

pub taken : (accepted_of store16 thirds own ≡ Ok tt) × (weights_of store16 thirds own ≡ pos 21846 ∷ pos 21845 ∷ pos 21845 ∷ pos 7 ∷ []) × (excesses_of store16 thirds own ≡ pos 0 ∷ [])
unfolding accepted_of weights_of weights_by excesses_of excesses_by excess sum unlike
taken = (refl, refl, refl)

-- any line may be moved by an offer; one that leaves 1, or moves a weight by 2, is not accepted
pub judged : (accepted_of store16 thirds (offer (pos 21845 ∷ pos 21845 ∷ pos 21846 ∷ pos 0 ∷ [])) ≡ Ok tt) × (accepted_of store16 thirds (offer (pos 21845 ∷ pos 21845 ∷ pos 21845 ∷ pos 0 ∷ [])) ≡ Err NoOffer) × (accepted_of store16 thirds (offer (pos 21847 ∷ pos 21844 ∷ pos 21845 ∷ pos 0 ∷ [])) ≡ Err NoOffer)
unfolding accepted_of excess sum unlike
judged = (refl, refl, refl)

-- 32767 is the end of its type
abbrev full : ℕ → List ℤ → Stored
full n weights = one n weights 15 (negsuc 0)

pub ends : (written_of store16 (full 2 (pos 32767 ∷ pos 0 ∷ pos 0 ∷ pos 0 ∷ [])) lent ≡ pos 32767 ∷ pos 1 ∷ pos 0 ∷ pos 0 ∷ pos 1 ∷ []) × (offered_of store16 (full 1 (pos 32767 ∷ pos 0 ∷ pos 0 ∷ pos 0 ∷ [])) 4 ≡ Err (NotFound (record { 0 = 0 })))
unfolding offered_of written_of written_by excess sum front
ends = (refl, refl)
