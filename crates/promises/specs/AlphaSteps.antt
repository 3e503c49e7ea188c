-- "Multiplying, dividing and multiplying again by alpha gives the first product back."
-- For alpha 0 to 157 exactly; for every alpha within 1. It is not tight: the first alpha at which the two differ is 172 (colour 234: 158, then 159). That dividing
-- undoes multiplying is not claimed: 193 times 253 is 191, and 191 by 253 is 192. Statements only. Assumes nothing.
use Rattle.std.specs.Prelude.{ℕ, ◌≤◌}
use Rattle.colours.specs.Steps.{Steps}

-- `Steps` of alpha has the three clauses: the same up to 157, not above by more than 1, not below by more than 1
abbrev pub AlphaThreeSteps : Type 0
AlphaThreeSteps = (colour alpha : ℕ) → colour ≤ 255 → alpha ≤ 255 → Steps colour alpha
