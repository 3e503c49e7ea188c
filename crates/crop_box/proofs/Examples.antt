-- The papers' rules at single inputs, by computation: minus zero, a width of 0, a start at the side, an end past it by 2^-54. Assumes nothing.
use mathlib.Core.Path.{◌≡◌, refl}
use mathlib.Core.Bool.{false}
use Prim.Native.Nat.{◌+◌, ◌^◌}
use lib.Ieee.{Float, binary64, round, of_bits, of_int, add, neg, lt, le}
use Rattle.floats.specs.Doubles.{zero64, one64}
use Rattle.crop_box.specs.Crop.{crop_of, number_of}
use Rattle.crop_box.specs.declared.CropBox.{CropBox}

abbrev box : Float → Float → Float → Float → CropBox
box l t w h = record { left = l; top = t; width = w; height = h }

-- minus zero is taken as 0 in every number, and a width of 0 passes; at the side is outside
pub minus_zero_passes : number_of (crop_of 1 1 (box (neg zero64) (neg zero64) (neg zero64) (neg zero64))) ≡ 0
unfolding crop_of of_bits of_int round neg lt le
minus_zero_passes = refl

pub at_the_side : number_of (crop_of 1 1 (box one64 zero64 zero64 zero64)) ≡ 4
unfolding crop_of of_bits of_int round lt le
at_the_side = refl

-- document 02's case: 0.75 + 0.25 ends at the side 1, and the next width is past it by 2^-54, though the rounded sum is 1
abbrev three_quarters : Float
three_quarters = of_bits binary64 0x3fe8_0000_0000_0000

abbrev quarter : Float
quarter = of_bits binary64 0x3fd0_0000_0000_0000

abbrev next_quarter : Float
next_quarter = of_bits binary64 0x3fd0_0000_0000_0001

next_quarter_is : (next_quarter ≡ round binary64 false (2 ^ 52 + 1) (2 ^ 54)) × (add binary64 three_quarters next_quarter ≡ one64)
unfolding of_bits round add
next_quarter_is = (refl, refl)

pub at_the_end : (number_of (crop_of 1 1 (box three_quarters zero64 quarter one64)) ≡ 0) × (number_of (crop_of 1 1 (box zero64 three_quarters one64 quarter)) ≡ 0)
unfolding crop_of of_bits of_int round lt le
at_the_end = (refl, refl)

pub past_by_one_step : (number_of (crop_of 1 1 (box three_quarters zero64 next_quarter one64)) ≡ 5) × (number_of (crop_of 1 1 (box zero64 three_quarters one64 next_quarter)) ≡ 5)
unfolding crop_of of_bits of_int round lt le
past_by_one_step = (refl, refl)
