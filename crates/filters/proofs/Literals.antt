-- The literals of the filters are the numbers that they are named for, by computation. Read beside specs/Literals.antt. Assumes nothing.
use mathlib.Core.Path.{◌≡◌, refl}
use mathlib.Core.Bool.{true, false}
use lib.Ieee.{binary64, round, of_bits, neg}
use Rattle.filters.specs.Literals.{two, three, four, five, eight, minus_half}

pub literals_are :
    (two ≡ round binary64 false 2 1) × (three ≡ round binary64 false 3 1) × (four ≡ round binary64 false 4 1) × (five ≡ round binary64 false 5 1)
    × (eight ≡ round binary64 false 8 1) × (minus_half ≡ round binary64 true 1 2)
unfolding of_bits round neg
literals_are = (refl, refl, refl, refl, refl, refl)
