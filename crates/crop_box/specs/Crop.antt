-- The crop's answer: a test for each of No. 2 to 5, named as its row, and the answer by cases in the order of the numbers; No. 1 is `bad_sides_value` of `lists`.
-- Cited by the contract of `crop`, by the weight builder and by the promises. Every comparison takes minus zero as 0.
-- Definitions only. Assumes nothing.
use Rattle.std.specs.Prelude.{Bool, not, ◌||◌, ◌&&◌, cond, ℕ, Result, Ok, Err}
use Rattle.std.specs.Float.Ieee.{lt, le}
use Rattle.lists.specs.Ranges.{bad_sides_value}
use Rattle.refusal.specs.Refusal.{number_in}
use Rattle.refusal.specs.declared.Refusal.TheVariants.{BadSide, NotFinite, NegativeExtent, StartOutside, EndOutside}
use Rattle.floats.specs.Doubles.{is_finite, zero64, double}
use Rattle.crop_box.specs.End.{ends_past_value}
use Rattle.crop_box.specs.declared.CropBox.{CropBox}
use Rattle.refusal.specs.declared.Refusal.{Refusal}

-- No. 2: a crop number is NaN or infinite
abbrev pub not_finite_value : CropBox → Bool
not_finite_value b = not (((is_finite b.left && is_finite b.top) && is_finite b.width) && is_finite b.height)

-- No. 3: width or height below 0
abbrev pub negative_extent_value : CropBox → Bool
negative_extent_value b = lt b.width zero64 || lt b.height zero64

-- No. 4: left or top below 0, or at or past the image side
abbrev pub start_outside_value : ℕ → ℕ → CropBox → Bool
start_outside_value w h b = ((lt b.left zero64 || le (double w) b.left) || lt b.top zero64) || le (double h) b.top

-- No. 5: left + width, or top + height, past the image side; each sum is that of the real numbers, and nothing is rounded
abbrev pub end_outside_value : ℕ → ℕ → CropBox → Bool
end_outside_value w h b = ends_past_value b.left b.width w || ends_past_value b.top b.height h

-- the box as it is, or the smallest number that holds
unfoldable pub crop_of : ℕ → ℕ → CropBox → Result CropBox Refusal
crop_of w h b =
    cond (bad_sides_value w h) (Err BadSide)
    (cond (not_finite_value b) (Err NotFinite)
    (cond (negative_extent_value b) (Err NegativeExtent)
    (cond (start_outside_value w h b) (Err StartOutside)
    (cond (end_outside_value w h b) (Err EndOutside)
    (Ok b)))))

-- the paper's number for each answer of the crop
abbrev pub number_of : Result CropBox Refusal → ℕ
number_of = number_in

-- and the box beside it: 0 in all four numbers on a refusal
abbrev pub box_of : Result CropBox Refusal → CropBox
box_of (Ok b) = b
box_of (Err refusal) = record { left = zero64; top = zero64; width = zero64; height = zero64 }
