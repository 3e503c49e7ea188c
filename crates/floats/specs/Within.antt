-- Two bounds on doubles: `Within` for numbers that are not negative, `AtMost` for either sign. Cited by the `requires` of inner functions that cast a double
-- to a line number or sum samples. Definitions only. Assumes nothing.
use Rattle.std.specs.Prelude.{true, false, ℕ, ◌*◌, ◌≤◌, Float}
use Rattle.std.specs.Float.{nan, inf, fin}
use Rattle.std.specs.Float.Ieee.{up, down}

-- x is finite, not negative, and at most n. Said of numerator and denominator, so that nothing is divided
abbrev pub Within : Float → ℕ → Type 0
Within nan n = ⊥
Within (inf s) n = ⊥
Within (fin true m e) n = ⊥
Within (fin false m e) n = m * up e ≤ n * down e

-- x is finite, and at most n in size
abbrev pub AtMost : Float → ℕ → Type 0
AtMost nan n = ⊥
AtMost (inf s) n = ⊥
AtMost (fin s m e) n = m * up e ≤ n * down e
