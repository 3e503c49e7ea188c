-- Whether weights serve in a store: No. 9's tests, slot by slot. Cited by the refusals of both normalisers and by the promises.
-- Definitions only. Assumes nothing.
use Rattle.std.specs.Prelude.{ℕ, Bool, not, ◌&&◌, ◌||◌, List, length, nat_lt, slice_index_or, Float}
use Rattle.std.specs.Float.{nan}
use Rattle.std.specs.Float.Ieee.{lt, neg}
use Rattle.lists.specs.Tab.{any}
use Rattle.floats.specs.Doubles.{is_finite}
use Rattle.windows.specs.declared.Store.{Store}
use Rattle.windows.specs.Set.{in_use_value}
use Rattle.weight_precision.specs.Precision.{power, scaled}

-- a whole number that the store's type holds: from -2^limit on, and below 2^limit
abbrev pub holds : Store → Float → Bool
holds store x = not (lt x (neg (power store.limit))) && lt x (power store.limit)

-- No. 9: the weight in slot k is not finite
abbrev pub not_finite_value : List Float → ℕ → Bool
not_finite_value weights k = not (is_finite (slice_index_or weights k nan))

-- No. 9: the rounded weight in slot k is in use and leaves its integer type
abbrev pub leaves : Store → ℕ → ℕ → List Float → List ℕ → ℕ → Bool
leaves store p window_size_value weights sizes k = in_use_value window_size_value sizes k && not (holds store (scaled p (slice_index_or weights k nan)))

-- No. 9 at a precision p: below 4, or some rounded weight in use leaves its type
abbrev pub unstorable : Store → ℕ → ℕ → List Float → List ℕ → Bool
unstorable store p window_size_value weights sizes = nat_lt p 4 || any (length weights) (leaves store p window_size_value weights sizes)
