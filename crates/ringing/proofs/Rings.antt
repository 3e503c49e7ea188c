-- The proofs of `Rings` and `RingsU8`: the sets are worked out from the request, through the builder and the normalisers, and the outputs from the sets, all by computation. Then `FirstPremiseNeeded`, by
-- the same sets and frames. Assumes nothing.
use mathlib.Core.Path.{◌≡◌, refl}
use mathlib.Core.Bool.{false}
use mathlib.Core.List.{List, [], ◌∷◌}
use Prim.Native.Nat.{ℕ, ◌≤◌}
use native.Mathlib.Omega.{arith}
use lib.Dec.{ltb, lit<}
use lib.Ieee.{add, sub, mul, div, sum, round, neg, lt, le, eq, of_int, of_bits, to_unsigned, to_signed}
use lib.ListN.{get_or}
use borrow.Author.Tests.{ltb-false}
use Rattle.lists.specs.Tab.{any, front}
use Rattle.lists.proofs.AnyLaws.{any_none}
use Rattle.integers.specs.Sums.{sum as sum_of, shifted, clipped}
use Rattle.numbers.specs.Whole.{abs, whole}
use Rattle.numbers.specs.Window.{start, stop, window}
use Rattle.crop_box.specs.Crop.{crop_of}
use Rattle.filters.specs.Filters.{support_of, catmull_rom_of, value_of}
use Rattle.windows.specs.Set.{excess}
use Rattle.windows.specs.Store.{store16, store32}
use Rattle.plans.specs.Plan.{centre, edge_of, scale_of, filter_scale_of, radius_of, scaled as planned, after_crop, plan_with_value, plan_of}
use Rattle.line_weights.specs.Weights.{line_weight_value, lead_of, total_of, size_of}
use Rattle.plan_windows.specs.Lines.{lead, held, total, size, slot, first_blank, or_zero}
use Rattle.coefficients.specs.Request.{judged}
use Rattle.weight_precision.specs.Precision.{largest, scaled, precision, integer}
use Rattle.normalizer.specs.Answer.{normalized_of, written_by, excesses_by, written_of, excesses_of}
use Rattle.vertical.specs.U16.{passed_u16, written_u16}
use Rattle.row_u8.specs.Sizes.{sizes_total_value}
use Rattle.vertical_u8.specs.U8.{passed_u8, written_u8}
use Rattle.ringing.specs.NoRinging.{NowhereDarker, UpTo}
use Rattle.ringing.specs.Rings.{made_in, sheet32, sheet16, dark, flat, spot, Rings, RingsU8, FirstPremiseNeeded, FirstPremiseNeededU8}

-- ---- from the request to the set
made : (made_in store32 ≡ sheet32) × (made_in store16 ≡ sheet16)
unfolding front start stop window whole abs add sub mul div sum round neg lt le eq of_int of_bits to_unsigned to_signed crop_of support_of catmull_rom_of value_of line_weight_value lead_of total_of size_of centre lead held total size slot first_blank or_zero edge_of scale_of filter_scale_of radius_of planned after_crop plan_of plan_with_value judged largest scaled precision integer normalized_of written_by excesses_by written_of excesses_of excess sum_of
made = (refl, refl)

-- ---- from the set to the display lines
pub rings : Rings
unfolding excess sum_of shifted clipped passed_u16 written_u16
rings = (made.0, refl, refl, refl, refl, refl, refl)

pub rings_u8 : RingsU8
unfolding excess sum_of shifted clipped sizes_total_value passed_u8 written_u8
rings_u8 = (made.1, refl, refl, refl, refl, refl, refl)

-- ---- the frames
lighter : NowhereDarker dark flat
lighter x l = ltb-false (get_or flat x 0) (get_or dark x 0) (any_none (λ x. ltb (get_or flat x 0) (get_or dark x 0)) 6 refl x l)

up_to : (M : ℕ) → any 6 (λ x. ltb M (get_or spot x 0)) ≡ false → UpTo M spot
up_to M h x l = ltb-false M (get_or spot x 0) (any_none (λ x. ltb M (get_or spot x 0)) 6 h x l)

-- 105 would be at most 100; and 100 at most 96
above : 105 ≤ 100 → ⊥
above h = omega arith

below : 100 ≤ 96 → ⊥
below h = omega arith

abbrev four : List ℕ
four = 0 ∷ 0 ∷ 0 ∷ 0 ∷ []

pub first_premise_needed : FirstPremiseNeeded
unfolding excess sum_of shifted clipped passed_u16 written_u16
first_premise_needed = (
  λ claim. above (claim sheet32 dark flat 1 0 1 four four refl refl lighter 0 (lit< tt) tt 0 (lit< tt)),
  λ claim. below (claim sheet32 spot 1 0 1 four refl (up_to 65535 refl) 0 0 (lit< tt) (lit< tt) tt refl).0,
)

pub first_premise_needed_u8 : FirstPremiseNeededU8
unfolding excess sum_of shifted clipped sizes_total_value passed_u8 written_u8
first_premise_needed_u8 = (
  λ claim. above (claim sheet16 dark flat 1 0 1 four four refl refl lighter 0 (lit< tt) tt 0 (lit< tt)),
  λ claim. below (claim sheet16 spot 1 0 1 four refl (up_to 255 refl) 0 0 (lit< tt) (lit< tt) tt refl).0,
)
