-- What two texts begin with in common. Cited by `shared`. Definitions only. Assumes nothing.
use Rattle.std.specs.Prelude.{cond, List, [], ◌∷◌, ℕ, suc, eqb}

-- how many bytes two texts begin with in common
abbrev pub common : List ℕ → List ℕ → ℕ
common [] u = 0
common (a ∷ t) [] = 0
common (a ∷ t) (b ∷ u) = cond (eqb a b) (suc (common t u)) 0
