-- Windows as they are read slot by slot. Cited by the contracts of what reads, judges and writes excesses. Definitions only. Assumes nothing.
use Rattle.std.specs.Prelude.{Bool, ◌||◌, List, ℕ, ◌+◌, ◌*◌, ℤ, pos, get_or}
use Rattle.lists.specs.Ranges.{bad_sides_value}
use Rattle.windows.specs.declared.Store.{Store}
use Rattle.windows.specs.Set.{Layout, windows, excess}
use Rattle.windows.specs.Store.{bad_precision}
use Rattle.windows.specs.Fit.{bad_set, differ}

-- the weights from slot a on
abbrev pub slot_from : List ℤ → ℕ → ℕ → ℤ
slot_from ws a k = get_or ws (a + k) (pos 0)

-- the excess of window i, which has `window` slots
abbrev pub excess_in : ℕ → ℕ → List ℤ → List ℕ → ℕ → ℤ
excess_in p window ws sizes i = excess p (slot_from ws (i * window)) (get_or sizes i 0)

-- it is not the one that stands in the list
abbrev pub differs_in : ℕ → ℕ → List ℤ → List ℕ → List ℤ → ℕ → Bool
differs_in p window ws sizes excesses i = differ (excess_in p window ws sizes i) (get_or excesses i (pos 0))

-- No. 1 or No. 10 before a weight is read: sides, layout and slots, precision
abbrev pub bad_shape : Store → Layout → ℕ → ℕ → Bool
bad_shape store l slots precision = (bad_sides_value l.lines (windows l) || bad_set l slots) || bad_precision store precision
