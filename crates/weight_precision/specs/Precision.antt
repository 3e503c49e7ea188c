-- The precision of a set and its integer weights, over the store.
-- Cited by the contracts of both normalisers and by the promises. Definitions only. Assumes nothing.
use Rattle.std.specs.Prelude.{ℕ, ◌+◌, ◌^◌, Bool, cond, List, length, ℤ, slice_index_or, Float}
use Rattle.std.specs.Float.{nan, binary64}
use Rattle.std.specs.Float.Ieee.{le, lt, to_signed}
use Rattle.lists.specs.Tab.{first, turns}
use Rattle.floats.specs.Doubles.{zero64, double, ◌times◌}
use Rattle.numbers.specs.Whole.{round_away}
use Rattle.windows.specs.declared.Store.{Store}
use Rattle.windows.specs.Store.{largest_precision}

-- 2^p
abbrev pub power : ℕ → Float
power p = double (2 ^ p)

-- the larger of two weights
abbrev pub larger : Float → Float → Float
larger x y = cond (lt y x) x y

-- the largest weight, over all slots of the set; 0 where there is no slot
unfoldable pub largest : List Float → Float
largest weights = turns (λ x k. larger x (slice_index_or weights k nan)) (slice_index_or weights 0 zero64) (length weights)

-- a weight times 2^p, rounded half away from zero
unfoldable pub scaled : ℕ → Float → Float
scaled p w = round_away binary64 (w times power p)

-- at the precision after p the weight is at least 2^limit
abbrev pub reaches : ℕ → Float → ℕ → Bool
reaches limit w p = le (power limit) (scaled (p + 1) w)

-- the first p from 0 to the largest precision of which that holds for the largest weight, or the largest precision if there is none; so that itself is never tried
unfoldable pub precision : Store → List Float → ℕ
precision store weights = first (reaches store.limit (largest weights)) 0 (largest_precision store)

-- the integer weight, in the store's type
unfoldable pub integer : Store → ℕ → Float → ℤ
integer store p w = to_signed store.limit (scaled p w)
