-- What the two functions leave: the stored set after the judge, and our own offer as it stands in the offerer's list, which is the list's beginning. Cited by the
-- theorems of `repairs` and by the promises. Definitions only. Assumes nothing.
use Rattle.std.specs.Prelude.{List, ◌*◌, ℤ, take}
use Rattle.windows.specs.declared.Store.{Store}
use Rattle.windows.specs.Set.{Stored, set_of, stored_of, windows}
use Rattle.repairs.specs.Offer.{Offer, offer_of}
use Rattle.repairs.specs.Answer.{weights_of, excesses_of, written_of}

abbrev pub left_set : Store → Stored → Offer → Stored
left_set store s o = stored_of (set_of s.set.layout (weights_of store s o)) s.precision (excesses_of store s o)

abbrev pub left_offer : Store → Stored → List ℤ → Offer
left_offer store s old =
    offer_of s.set.layout.window_size_value s.precision s.set.layout.starts s.set.layout.sizes
    (take (windows s.set.layout * s.set.layout.window_size_value) (written_of store s old))
