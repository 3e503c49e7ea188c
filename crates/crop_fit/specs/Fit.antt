-- The fitting's answer: a test for No. 1, for No. 2 and for a zero side, the ratios, and the answer by cases in that order.
-- Cited by the contract of `fit_src_into_dst_size`. Each operation is rounded once, in the order of the Rust.
-- Definitions only. Assumes nothing.
use Rattle.std.specs.Prelude.{Bool, false, not, ◌||◌, ◌&&◌, cond, ℕ, ltb, eqb, Float, Result, Ok, Err, Option, Some, None}
use Rattle.std.specs.Float.{binary64}
use Rattle.std.specs.Float.Ieee.{of_bits, lt, le}
use Rattle.refusal.specs.Refusal.{number_in}
use Rattle.refusal.specs.declared.Refusal.TheVariants.{BadSide, NotFinite}
use Rattle.floats.specs.Doubles.{is_finite, zero64, half64, one64, double, ◌minus◌, ◌times◌, ◌over◌}
use Rattle.numbers.specs.Whole.{abs}
use Rattle.crop_box.specs.declared.CropBox.{CropBox}
use Rattle.refusal.specs.declared.Refusal.{Refusal}

-- x clamped to 0..1; minus zero stays as it is
abbrev pub clamped : Float → Float
clamped x = cond (lt x zero64) zero64 (cond (lt one64 x) one64 x)

-- No. 1, here only for a side above 8,192
abbrev pub large_sides_value : ℕ → ℕ → ℕ → ℕ → Bool
large_sides_value sw sh dw dh = ((ltb 8192 sw || ltb 8192 sh) || ltb 8192 dw) || ltb 8192 dh

-- No. 2: a centring number is NaN or infinite, judged before it is clamped
abbrev pub bad_centring : Option (Float × Float) → Bool
bad_centring None = false
bad_centring (Some (across, down)) = not (is_finite across && is_finite down)

-- any side is 0
abbrev pub zero_side_value : ℕ → ℕ → ℕ → ℕ → Bool
zero_side_value sw sh dw dh = ((eqb sw 0 || eqb sh 0) || eqb dw 0) || eqb dh 0

-- left 0, top 0 and the source's sides
abbrev pub source_box : ℕ → ℕ → CropBox
source_box sw sh = record { left = zero64; top = zero64; width = double sw; height = double sh }

-- 2^-52
abbrev pub epsilon64 : Float
epsilon64 = of_bits binary64 0x3cb0_0000_0000_0000

-- absent centring means 0.5, 0.5
abbrev pub across_of : Option (Float × Float) → Float
across_of None = half64
across_of (Some (across, down)) = clamped across

abbrev pub down_of : Option (Float × Float) → Float
down_of None = half64
down_of (Some (across, down)) = clamped down

-- a box of a crop width and height, placed in the source by the centring
abbrev pub placed_box : Float → Float → Float → Float → Float → Float → CropBox
placed_box width height cropWidth cropHeight across down =
    record { left = (width minus cropWidth) times across; top = (height minus cropHeight) times down; width = cropWidth; height = cropHeight }

-- the source itself where its ratio is nearer than 2^-52 to the required one; else, where it is wider, its sides are cut; else top and bottom
unfoldable pub ratio_box_value : Float → Float → Float → Float → Float → CropBox
ratio_box_value width height required across down =
    cond (lt (abs (width over height minus required)) epsilon64) (placed_box width height width height across down)
    (cond (le required (width over height)) (placed_box width height (required times height) height across down)
    (placed_box width height width (width over required) across down))

-- the source's box where any side is 0, else the box of the display's ratio
unfoldable pub fitted_box : ℕ → ℕ → ℕ → ℕ → Float → Float → CropBox
fitted_box sw sh dw dh across down =
    cond (zero_side_value sw sh dw dh) (source_box sw sh) (ratio_box_value (double sw) (double sh) (double dw over double dh) across down)

-- No. 1, then No. 2, then the box
unfoldable pub fit_of : ℕ → ℕ → ℕ → ℕ → Option (Float × Float) → Result CropBox Refusal
fit_of sw sh dw dh centring =
    cond (large_sides_value sw sh dw dh) (Err BadSide)
    (cond (bad_centring centring) (Err NotFinite)
    (Ok (fitted_box sw sh dw dh (across_of centring) (down_of centring))))

-- the paper's number for each answer of the fitting
abbrev pub number_of : Result CropBox Refusal → ℕ
number_of = number_in

-- and the box beside it: 0 in all four numbers on a refusal
abbrev pub box_of : Result CropBox Refusal → CropBox
box_of (Ok b) = b
box_of (Err refusal) = record { left = zero64; top = zero64; width = zero64; height = zero64 }
