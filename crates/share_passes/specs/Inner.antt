-- The set that stands at a place of the lists. Cited by the inner contract of the pass. Definitions only. Assumes nothing.
use Rattle.std.specs.Prelude.{List, ℕ, ◌-◌, ℤ}
use Rattle.windows.specs.Set.{layout_of, set_of, Stored, stored_of}
use Rattle.share_lists.specs.declared.Place.{Place}
use Rattle.shares.specs.Store.{part}

abbrev pub set_in : Place → List ℤ → List ℕ → List ℕ → List ℤ → Stored
set_in at slots starts sizes excesses =
    stored_of
    (set_of (layout_of at.lines at.window (part at.head (at.tail - at.head) starts) (part at.head (at.tail - at.head) sizes)) (part at.from (at.to - at.from) slots))
    at.precision
    (part at.head (at.tail - at.head) excesses)
