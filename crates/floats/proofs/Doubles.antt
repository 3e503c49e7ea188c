-- The patterns of specs/Doubles.antt are the numbers that they are named for, and a double is finite exactly where it lies between the
-- infinities. Cited by functions that test it so. Assumes nothing.
use mathlib.Core.Path.{◌≡◌, refl}
use mathlib.Core.Bool.{true, false, ◌&&◌}
use lib.Ieee.{Float, nan, inf, fin, binary64, lt, round, of_bits}
use Rattle.floats.specs.Doubles.{is_finite, zero64, half64, one64}

pub doubles_are : (zero64 ≡ round binary64 false 0 1) × (half64 ≡ round binary64 false 1 2) × (one64 ≡ round binary64 false 1 1)
unfolding of_bits round
doubles_are = (refl, refl, refl)

pub finite_between : (x : Float) → lt (inf true) x && lt x (inf false) ≡ is_finite x
unfolding lt
finite_between nan = refl
finite_between (inf true) = refl
finite_between (inf false) = refl
finite_between (fin s m e) = refl
