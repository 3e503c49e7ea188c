-- The paper's number for each case of the builder's answer, and the values beside it. Cited by the promises. Definitions only. Assumes nothing.
use Rattle.std.specs.Prelude.{◌≡◌, ℕ, Result, Ok, Err}
use Rattle.refusal.specs.Refusal.{number_of as numberOfRefusal, answer_number}
use Rattle.refusal.specs.declared.Refusal.{Refusal}
use Rattle.refusal.specs.declared.Refusal.TheVariants.{BlankWindow}
use Rattle.coefficients.specs.declared.NotBuilt.{NotBuilt}
use Rattle.coefficients.specs.declared.NotBuilt.TheVariants.{Blank, Refused}

-- the number of a build that failed
abbrev pub not_built_number : NotBuilt → ℕ
not_built_number (Blank line) = numberOfRefusal BlankWindow
not_built_number (Refused refusal) = numberOfRefusal refusal

abbrev pub number_of : Result ℕ NotBuilt → ℕ
number_of = answer_number not_built_number

-- a refusal passed on by a build
abbrev pub refused_as : Refusal → NotBuilt → Type 0
refused_as refusal error = error ≡ Refused refusal

-- the first blank display line, of No. 8 only
abbrev pub line_of : Result ℕ NotBuilt → ℕ
line_of (Ok window_size_value) = 0
line_of (Err (Blank line)) = line.0
line_of (Err (Refused refusal)) = 0

-- the window size, of No. 0 only
abbrev pub window_of : Result ℕ NotBuilt → ℕ
window_of (Ok window_size_value) = window_size_value
window_of (Err (Blank line)) = 0
window_of (Err (Refused refusal)) = 0
