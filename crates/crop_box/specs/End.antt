-- Where a crop ends, as a real number: the sum of two exact values, and one comparison with the side. Cited by No. 5 of the crop (specs/Crop.antt) and by the
-- contracts of its functions. Definitions only. Assumes nothing.
use Rattle.std.specs.Prelude.{◌≡◌, Bool, true, false, ℕ, ◌*◌, ℤ, pos, neg_ℤ, ◌+ℤ◌, ◌*ℤ◌, Float}
use Rattle.std.specs.Int.Signed.{lt_z}
use Rattle.std.specs.Float.{nan, inf, fin}
use Rattle.std.specs.Float.Ieee.{up, lt}
use Rattle.std.specs.Float.Ieee.Positive.{den}
use Rattle.floats.specs.Doubles.{is_finite, zero64}

-- a finite double is exactly this over its `den`; minus zero is 0 (what is not finite is No. 2 and never comes here)
abbrev pub numerator : Float → ℤ
numerator nan = pos 0
numerator (inf s) = pos 0
numerator (fin true m e) = neg_ℤ (pos (m * up e))
numerator (fin false m e) = pos (m * up e)

-- start + extent over the product of their denominators, so that nothing is divided and nothing rounded
abbrev pub end_over : Float → Float → ℤ
end_over start extent = numerator start *ℤ pos (den extent) +ℤ numerator extent *ℤ pos (den start)

-- it is past the side
abbrev pub ends_past_value : Float → Float → ℕ → Bool
ends_past_value start extent side = lt_z (pos side *ℤ pos (den start * den extent)) (end_over start extent)

-- finite, and 0 or above; minus zero is 0. What No. 2 to 4 leave of each number of a box, and the `requires` of the functions that judge No. 5
abbrev pub FromZero : Float → Type 0
FromZero x = (is_finite x ≡ true) × (lt x zero64 ≡ false)
