-- Numbers outside a range, and the range that document 01 gives to the sides of images: cited by every test for No. 1 and by those for No. 10 that speak of a
-- range. Definitions only. Assumes nothing.
use Rattle.std.specs.Prelude.{Bool, ◌||◌, ℕ, ltb}

-- n is below low or above high
abbrev pub outside : ℕ → ℕ → ℕ → Bool
outside low high n = ltb n low || ltb high n

-- No. 1: one of two sides is not 1 to 8,192
abbrev pub bad_sides_value : ℕ → ℕ → Bool
bad_sides_value first second = outside 1 8192 first || outside 1 8192 second
