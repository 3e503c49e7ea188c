-- Absolute value, floor, ceiling, rounding half away from zero and narrowing, on the values of IEEE 754. Cited by every contract of `numbers`.
-- Each rounding works out a whole number from the size m * up e / down e of its argument and hands it to the model's `round` with the argument's
-- sign, so that a zero result has that sign. An infinity stays, and a NaN gives the NaN. Definitions only. Assumes nothing.
use Rattle.std.specs.Prelude.{ℕ, ◌+◌, ◌-◌, ◌*◌, ◌/◌, Bool, true, false, cond, Float}
use Rattle.std.specs.Float.{nan, inf, fin, Format, binary32}
use Rattle.std.specs.Float.Ieee.{up, down, round}
use Rattle.integers.specs.Nearest.{nearest}

-- a / c, cut to a whole number
abbrev pub cut : ℕ → ℕ → ℕ
cut a c = a / c

-- a / c, up to the next whole number where it is none
abbrev pub raised : ℕ → ℕ → ℕ
raised a c = (a + (c - 1)) / c

-- the size of ±a / c as a whole number, s being the minus sign: toward minus infinity
abbrev pub downward : Bool → ℕ → ℕ → ℕ
downward s a c = cond s (raised a c) (cut a c)

-- toward infinity
abbrev pub upward : Bool → ℕ → ℕ → ℕ
upward s a c = cond s (cut a c) (raised a c)

-- to the nearest, a half going away from zero, whatever the sign
abbrev pub away : Bool → ℕ → ℕ → ℕ
away s a c = nearest a c

-- x as a whole number, its size found by g
unfoldable pub whole : (Bool → ℕ → ℕ → ℕ) → Format → Float → Float
whole g f nan = nan
whole g f (inf s) = inf s
whole g f (fin s m e) = round f s (g s (m * up e) (down e)) 1

-- the largest whole number that is at most x
abbrev pub floor : Format → Float → Float
floor f x = whole downward f x

-- the smallest whole number that is at least x
abbrev pub ceil : Format → Float → Float
ceil f x = whole upward f x

-- the whole number nearest to x, a half going away from zero
abbrev pub round_away : Format → Float → Float
round_away f x = whole away f x

-- x with its sign cleared
unfoldable pub abs : Float → Float
abs nan = nan
abs (inf s) = inf false
abs (fin s m e) = fin false m e

-- binary64 to binary32: to the nearest, a tie to the even one, and an infinity where too large
unfoldable pub narrow : Float → Float
narrow nan = nan
narrow (inf s) = inf s
narrow (fin s m e) = round binary32 s (m * up e) (down e)

-- whether x is an infinity, of either sign; the NaN is none
abbrev pub is_infinite : Float → Bool
is_infinite nan = false
is_infinite (inf s) = true
is_infinite (fin s m e) = false
