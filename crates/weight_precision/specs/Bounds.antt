-- A weight between bounds, by comparisons of doubles: what spares the judge the rounding. Cited by the contracts of inner functions only.
-- Definitions only. Assumes nothing.
use Rattle.std.specs.Prelude.{ℕ, Bool, not, ◌&&◌, List, slice_index_or, Float}
use Rattle.std.specs.Float.{nan}
use Rattle.std.specs.Float.Ieee.{lt}
use Rattle.floats.specs.Doubles.{half64, double, ◌plus◌, ◌times◌}

-- n + 1/2
abbrev pub and_half : ℕ → Float
and_half n = double n plus half64

-- the weight in slot k, times `unit`, is not between low and high
abbrev pub outside : Float → Float → Float → List Float → ℕ → Bool
outside low high unit weights k = not (lt low (slice_index_or weights k nan times unit) && lt (slice_index_or weights k nan times unit) high)
