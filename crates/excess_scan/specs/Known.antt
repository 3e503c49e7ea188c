-- The one right text of a list of numbers, piece by piece. Cited by the scanner of the excesses. Definitions only. Assumes nothing.
use Rattle.std.specs.Prelude.{cond, List, [], ◌∷◌, ◌++◌, ℕ, suc, eqb, ℤ}
use Rattle.text.specs.Text.{signed}

-- number i of n: a comma after all but the last, a newline after that
abbrev pub known_text : (ℕ → ℤ) → ℕ → ℕ → List ℕ
known_text e n i = signed (e i) ++ (cond (eqb (suc i) n) 10 44 ∷ [])
