-- Ranges of columns that follow one another, given by their widths, and a count over all of them. Cited by the promises. Definitions only. Assumes nothing.
use Rattle.std.specs.Prelude.{List, [], ◌∷◌, ℕ, ◌+◌}

-- how many columns they have
abbrev pub width_of : List ℕ → ℕ
width_of [] = 0
width_of (width ∷ widths) = width + width_of widths

-- the counts of the ranges from column `first` on, added up
abbrev pub over_ranges : (ℕ → ℕ → ℕ) → ℕ → List ℕ → ℕ
over_ranges counted first [] = 0
over_ranges counted first (width ∷ widths) = counted first width + over_ranges counted (first + width) widths
