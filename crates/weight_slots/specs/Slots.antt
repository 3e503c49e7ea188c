-- A slot of a stored set. Cited by what writes slots, by both normalisers and by the promises. Definitions only. Assumes nothing.
use Rattle.std.specs.Prelude.{ℕ, cond, List, ℤ, pos, slice_index_or, Float}
use Rattle.std.specs.Float.{nan}
use Rattle.windows.specs.declared.Store.{Store}
use Rattle.windows.specs.Set.{in_use_value}
use Rattle.weight_precision.specs.Precision.{integer}

-- slot k of the result: the integer weight where the slot is in use, else 0
abbrev pub slot_at : Store → ℕ → ℕ → List Float → List ℕ → ℕ → ℤ
slot_at store p window_size_value weights sizes k = cond (in_use_value window_size_value sizes k) (integer store p (slice_index_or weights k nan)) (pos 0)
