-- Codes of the C interface: what each names, and the answers where a code may name nothing. No. 100 exists here only; it is judged first but for a build with a retired filter,
-- and the numbers beside it are 0. Cited by the contracts of `codes`, `mirror_crop`, `mirror_sets`, `mirror_sheets` and `mirror_readers`. Definitions only. Assumes nothing.
use Rattle.std.specs.Prelude.{Bool, cond, not, ◌&&◌, ◌||◌, ℕ, ltb, eqb, Float, Option, Some, None}
use Rattle.floats.specs.Doubles.{zero64}
use Rattle.refusal.specs.Refusal.{number_of as numberOfRefusal}
use Rattle.refusal.specs.declared.Refusal.TheVariants.{RetiredFilter}
use Rattle.filters.specs.declared.FilterType.{FilterType}
use Rattle.filters.specs.declared.FilterType.TheVariants.{Box, Bilinear, CatmullRom, Mitchell}
use Rattle.filters.specs.declared.Filter.{Filter}
use Rattle.filters.specs.Names.{picked_of, is_retired}
use Rattle.filters.specs.Filters.{value_of}
use Rattle.crop_box.specs.declared.CropBox.{CropBox}
use Rattle.crop_fit.specs.Fit.{fit_of, box_of, number_of as numberOfFitted}
use Rattle.plans.specs.declared.Axis.{Axis}
use Rattle.plans.specs.declared.Request.{Request}
use Rattle.plans.specs.declared.Axis.TheVariants.{Across, Down}

-- a code that names nothing
abbrev pub bad_code : ℕ
bad_code = 100

abbrev pub no_filter : ℕ → Bool
no_filter code = ltb 3 code

-- an axis or a flag
abbrev pub no_flag : ℕ → Bool
no_flag code = ltb 1 code

abbrev pub filter_of : ℕ → FilterType
filter_of code = cond (eqb code 0) Box (cond (eqb code 1) Bilinear (cond (eqb code 2) CatmullRom Mitchell))

abbrev pub code_of : FilterType → ℕ
code_of Box = 0
code_of Bilinear = 1
code_of CatmullRom = 2
code_of Mitchell = 3

abbrev pub axis_of : ℕ → Axis
axis_of code = cond (eqb code 0) Across Down

-- centring absent, or the two numbers
abbrev pub centring_of : ℕ → Float → Float → Option (Float × Float)
centring_of code across down = cond (eqb code 0) None (Some (across, down))

-- one filter's weight; a retired one has none, which is No. 16
abbrev pub picked_number : Option Filter → ℕ
picked_number (Some f) = 0
picked_number None = numberOfRefusal RetiredFilter

abbrev pub picked_weight : Option Filter → Float → Float
picked_weight (Some f) x = value_of f x
picked_weight None x = zero64

unfoldable pub filter_number : ℕ → ℕ
filter_number filter = cond (no_filter filter) bad_code (picked_number (picked_of (filter_of filter)))

unfoldable pub filter_weight : ℕ → Float → Float
filter_weight filter x = cond (no_filter filter) zero64 (picked_weight (picked_of (filter_of filter)) x)

-- the fitting
unfoldable pub fit_number : ℕ → ℕ → ℕ → ℕ → ℕ → Float → Float → ℕ
fit_number sw sh dw dh centred cx cy = cond (no_flag centred) bad_code (numberOfFitted (fit_of sw sh dw dh (centring_of centred cx cy)))

abbrev pub no_box : CropBox
no_box = record { left = zero64; top = zero64; width = zero64; height = zero64 }

unfoldable pub fit_box : ℕ → ℕ → ℕ → ℕ → ℕ → Float → Float → CropBox
fit_box sw sh dw dh centred cx cy = cond (no_flag centred) no_box (box_of (fit_of sw sh dw dh (centring_of centred cx cy)))

-- the weight builder: one of its three codes names nothing. With a retired filter axis and flag are not looked at, so that No. 16 comes before all else
abbrev pub no_codes : ℕ → ℕ → ℕ → Bool
no_codes axis filter adapts = no_filter filter || (not (is_retired (filter_of filter)) && (no_flag axis || no_flag adapts))

-- the request that numbers and codes make
abbrev pub request_of : ℕ → ℕ → Float → Float → Float → Float → ℕ → ℕ → ℕ → ℕ → Request
request_of w h left top width height axis output filter adapts = record {
  width = w;
  height = h;
  crop = record { left = left; top = top; width = width; height = height };
  axis = axis_of axis;
  output = output;
  filter = filter_of filter;
  adapts = eqb adapts 1;
}
