-- The papers' rules at single inputs, by computation: 2^-52, a fitted box. Assumes nothing.
use Rattle.std.specs.Prelude.{Some, None}
use mathlib.Core.Path.{◌≡◌, refl}
use mathlib.Core.Bool.{false}
use Prim.Native.Nat.{◌^◌}
use lib.Ieee.{Float, nan, binary64, round, of_bits, of_int, sub, mul, div, neg, lt, le}
use Rattle.floats.specs.Doubles.{zero64, half64, one64}
use Rattle.numbers.specs.Whole.{abs}
use Rattle.crop_box.specs.Crop.{crop_of, number_of as cropNumberOf}
use Rattle.crop_box.specs.declared.CropBox.{CropBox}
use Rattle.crop_fit.specs.Fit.{fit_of, fitted_box, ratio_box_value, epsilon64, box_of, number_of}

abbrev box : Float → Float → Float → Float → CropBox
box l t w h = record { left = l; top = t; width = w; height = h }

epsilon_is : epsilon64 ≡ round binary64 false 1 (2 ^ 52)
unfolding of_bits round
epsilon_is = refl

-- so a fitted box may be refused: 1 x 1 into 1 x 3, centring (1, 1)
pub fitted_past_the_end : cropNumberOf (crop_of 1 1 (box_of (fit_of 1 1 1 3 (Some (one64, one64))))) ≡ 5
unfolding crop_of fit_of fitted_box ratio_box_value of_bits of_int round sub mul div lt le abs
fitted_past_the_end = refl

-- 2 x 1 into 1 x 1: the left and right quarters are cut; a centring of minus zero keeps its sign
pub square_of_two : box_of (fit_of 2 1 1 1 None) ≡ box half64 zero64 one64 one64
unfolding fit_of fitted_box ratio_box_value of_bits of_int round sub mul div lt le abs
square_of_two = refl

pub minus_zero_stays : box_of (fit_of 2 1 1 1 (Some ((neg zero64), one64))) ≡ box (neg zero64) zero64 one64 one64
unfolding fit_of fitted_box ratio_box_value of_bits of_int round sub mul div neg lt le abs
minus_zero_stays = refl

-- a bad centring is No. 2 beside a zero side too
pub bad_beside_zero : number_of (fit_of 0 1 1 1 (Some (nan, one64))) ≡ 2
unfolding fit_of
bad_beside_zero = refl
