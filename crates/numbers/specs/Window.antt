-- The range of camera lines about a centre c with radius r, and the window size, as the weight builder computes them. Cited by the contracts of the
-- builder. Definitions only. Assumes nothing.
use Rattle.std.specs.Prelude.{ℕ, ◌+◌, ◌*◌, min, cond, from_bits, Float}
use Rattle.std.specs.Float.{binary64}
use Rattle.std.specs.Float.Ieee.{add, sub, lt, to_unsigned}
use Rattle.numbers.specs.Whole.{floor, ceil}

-- the larger of x and 0
abbrev pub at_least_zero : Float → Float
at_least_zero x = cond (lt (from_bits binary64 0) x) x (from_bits binary64 0)

-- the first line of the range: the floor of c - r, at least 0
unfoldable pub start : Float → Float → ℕ
start c r = to_unsigned 32 (at_least_zero (floor binary64 (sub binary64 c r)))

-- the end of the range, excluded: the ceiling of c + r, at least 0 and at most the side
unfoldable pub stop : ℕ → Float → Float → ℕ
stop side c r = min (to_unsigned 32 (at_least_zero (ceil binary64 (add binary64 c r)))) side

-- the window size: the ceiling of r on each side of the centre line
unfoldable pub window : Float → ℕ
window r = 2 * to_unsigned 32 (ceil binary64 r) + 1
