-- Document 01's sheet and run rows, and the edges that the rules were tried at, computed on the definitions that the contract of `build` cites.
-- Cited by docs/CONTRACTS.md. Assumes nothing.
use Rattle.std.specs.Prelude.{Ok, Err}
use mathlib.Core.Path.{◌≡◌, refl}
use mathlib.Core.Bool.{true}
use mathlib.Core.List.{[], ◌∷◌}
use Prim.Native.Nat.{ℕ}
use lib.Ieee.{Float, binary64, of_bits, add, sub, mul, div, sum, round, neg, lt, le, eq, of_int, to_unsigned}
use Rattle.lists.specs.Tab.{front}
use Rattle.numbers.specs.Whole.{abs, whole}
use Rattle.numbers.specs.Window.{start, stop, window}
use Rattle.crop_box.specs.Crop.{crop_of}
use Rattle.refusal.specs.declared.Refusal.TheVariants.{RetiredFilter}
use Rattle.filters.specs.declared.FilterType.{FilterType}
use Rattle.filters.specs.declared.FilterType.TheVariants.{Box, Bilinear, CatmullRom, Mitchell}
use Rattle.filters.specs.Filters.{support_of, box_of, bilinear_of, catmull_rom_of, value_of}
use Rattle.floats.specs.Doubles.{zero64, one64, half64}
use Rattle.plans.specs.declared.Axis.TheVariants.{Across}
use Rattle.plans.specs.declared.Request.{Request}
use Rattle.coefficients.specs.declared.NotBuilt.TheVariants.{Blank, Refused}
use Rattle.coefficients.specs.Answer.{number_of}
use Rattle.line_weights.specs.Weights.{line_weight_value, lead_of, total_of, size_of}
use Rattle.plans.specs.Plan.{centre}
use Rattle.plan_windows.specs.Lines.{lead, held, total, size, slot, first_blank, or_zero}
use Rattle.plans.specs.Plan.{edge_of, scale_of, filter_scale_of, radius_of, scaled, after_crop, plan_with_value, plan_of}
use Rattle.coefficients.specs.Request.{judged, built_of, weights_of, starts_of, sizes_of}

-- a square of n lines, cropped across from left on, adapting
abbrev asked : FilterType → ℕ → ℕ → Float → Float → Request
asked f n output left width = record {
  width = n;
  height = n;
  crop = record { left = left; top = zero64; width = width; height = one64 };
  axis = Across;
  output = output;
  filter = f;
  adapts = true;
}

abbrev four : Float
four = of_bits binary64 0x4010_0000_0000_0000

abbrev two : Float
two = of_bits binary64 0x4000_0000_0000_0000

abbrev minus_zero : Float
minus_zero = of_bits binary64 0x8000_0000_0000_0000

-- 1 - 2^-53, 2^-53, and 5 x 2^-1074
abbrev last : Float
last = of_bits binary64 0x3fef_ffff_ffff_ffff

abbrev tiny : Float
tiny = of_bits binary64 0x3ca0_0000_0000_0000

abbrev least5 : Float
least5 = of_bits binary64 5

-- side 4, crop 0 to 4, output 2, Box: the set of the paper's sheet; one slot more than asked for is left as it was
pub sheet_of_the_paper :
    (built_of (asked Box 4 2 zero64 four) 7 2 2 ≡ Ok 3)
    × (weights_of (asked Box 4 2 zero64 four) 7 2 2 (two ∷ two ∷ two ∷ two ∷ two ∷ two ∷ two ∷ []) ≡ half64 ∷ half64 ∷ zero64 ∷ half64 ∷ half64 ∷ zero64 ∷ two ∷ [])
    × (starts_of (asked Box 4 2 zero64 four) 7 2 2 (9 ∷ 9 ∷ []) ≡ 0 ∷ 2 ∷ [])
    × (sizes_of (asked Box 4 2 zero64 four) 7 2 2 (9 ∷ 9 ∷ []) ≡ 2 ∷ 2 ∷ [])
unfolding front start stop window whole abs add sub mul div sum round neg lt le eq of_int of_bits to_unsigned crop_of support_of box_of value_of line_weight_value lead_of total_of size_of centre lead held total size slot first_blank or_zero edge_of scale_of filter_scale_of radius_of scaled after_crop plan_with_value plan_of judged
sheet_of_the_paper = (refl, refl, refl, refl)

-- CatmullRom, 2 lines to 2: the dropped zero at the end is divided too, and slot 1 is minus zero
pub minus_zero_in_slot_1 :
    (built_of (asked CatmullRom 2 2 zero64 two) 10 2 2 ≡ Ok 5)
    × (weights_of (asked CatmullRom 2 2 zero64 two) 10 2 2 (two ∷ two ∷ two ∷ two ∷ two ∷ two ∷ two ∷ two ∷ two ∷ two ∷ [])
    ≡ one64 ∷ minus_zero ∷ zero64 ∷ zero64 ∷ zero64 ∷ one64 ∷ zero64 ∷ zero64 ∷ zero64 ∷ zero64 ∷ [])
    × (starts_of (asked CatmullRom 2 2 zero64 two) 10 2 2 (9 ∷ 9 ∷ []) ≡ 0 ∷ 1 ∷ [])
    × (sizes_of (asked CatmullRom 2 2 zero64 two) 10 2 2 (9 ∷ 9 ∷ []) ≡ 1 ∷ 1 ∷ [])
unfolding front start stop window whole abs add sub mul div sum round neg lt le eq of_int of_bits to_unsigned crop_of support_of catmull_rom_of value_of line_weight_value lead_of total_of size_of centre lead held total size slot first_blank or_zero edge_of scale_of filter_scale_of radius_of scaled after_crop plan_with_value plan_of judged
minus_zero_in_slot_1 = (refl, refl, refl, refl)

-- side 1, left 1 - 2^-53, width 2^-53: Box is No. 8 at line 0, all 0, and at line 1 where the output side is 2; Bilinear succeeds.
-- Width 5 x 2^-1074, output 8: the last centre is past the far edge, and the set is built all the same
pub run_rows :
    (built_of (asked Box 1 1 last tiny) 3 1 1 ≡ Err (Blank (record { 0 = 0 })))
    × (weights_of (asked Box 1 1 last tiny) 4 1 1 (two ∷ two ∷ two ∷ two ∷ []) ≡ zero64 ∷ zero64 ∷ zero64 ∷ two ∷ [])
    × (built_of (asked Box 1 2 last tiny) 6 2 2 ≡ Err (Blank (record { 0 = 1 })))
    × (built_of (asked Bilinear 1 1 last tiny) 3 1 1 ≡ Ok 3)
    × (built_of (asked Box 1 8 zero64 least5) 24 8 8 ≡ Ok 3)
unfolding front start stop window whole abs add sub mul div sum round neg lt le eq of_int of_bits to_unsigned crop_of support_of box_of bilinear_of value_of line_weight_value lead_of total_of size_of centre lead held total size slot first_blank or_zero edge_of scale_of filter_scale_of radius_of scaled after_crop plan_with_value plan_of judged
run_rows = (refl, refl, refl, refl, refl)

-- output sides 0 and 8,193 are No. 1; 1 is built; 8,192 passes and, with no slot lent, is No. 7
pub output_sides :
    (number_of (built_of (asked Box 1 0 zero64 one64) 0 0 0) ≡ 1)
    × (number_of (built_of (asked Box 1 8193 zero64 one64) 0 0 0) ≡ 1)
    × (built_of (asked Box 1 1 zero64 one64) 3 1 1 ≡ Ok 3)
    × (number_of (built_of (asked Box 1 8192 zero64 one64) 0 0 0) ≡ 7)
unfolding front start stop window whole abs add sub mul div sum round neg lt le eq of_int of_bits to_unsigned crop_of support_of box_of value_of line_weight_value lead_of total_of size_of centre lead held total size slot first_blank or_zero edge_of scale_of filter_scale_of radius_of scaled after_crop plan_with_value plan_of judged
output_sides = (refl, refl, refl, refl)

-- Mitchell is No. 16 in a request that is right, and where an output side of 0, a box outside the image and lists of no length would each be refused too; nothing is touched
pub retired_first :
    (built_of (asked Mitchell 4 2 zero64 four) 18 2 2 ≡ Err (Refused RetiredFilter))
    × (built_of (asked Mitchell 0 0 four four) 0 0 0 ≡ Err (Refused RetiredFilter))
    × (weights_of (asked Mitchell 4 2 zero64 four) 18 2 2 (two ∷ two ∷ []) ≡ two ∷ two ∷ [])
    × (starts_of (asked Mitchell 4 2 zero64 four) 18 2 2 (9 ∷ 9 ∷ []) ≡ 9 ∷ 9 ∷ [])
    × (sizes_of (asked Mitchell 4 2 zero64 four) 18 2 2 (9 ∷ 9 ∷ []) ≡ 9 ∷ 9 ∷ [])
unfolding plan_of judged
retired_first = (refl, refl, refl, refl, refl)
