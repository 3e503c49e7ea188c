-- A ladder of tests, each with a number: the number that it gives, and what is so exactly when a number is given. Cited by the theorems that say, for each number of
-- document 01's table, when a function gives it. Definitions only. Assumes nothing.
use Rattle.std.specs.Prelude.{◌≡◌, Bool, true, false, cond, not, ◌&&◌, List, [], ◌∷◌, ℕ, eqb}

-- A where B, and only there
abbrev pub Exactly : Type 0 → Type 0 → Type 0
Exactly A B = (A → B) × (B → A)

-- the number of the first test that holds, 0 where none does
abbrev pub given : List (Bool × ℕ) → ℕ
given [] = 0
given (rung ∷ rest) = cond rung.0 rung.1 (given rest)

abbrev pub Choice : Bool → Type 0 → Type 0 → Type 0
Choice true A B = A
Choice false A B = B

-- n is due: the test of number n holds and none before it does; 0 is due where none holds
abbrev pub Due : ℕ → List (Bool × ℕ) → Type 0
Due n [] = n ≡ 0
Due n (rung ∷ rest) = Choice (eqb n rung.1) (rung.0 ≡ true) ((rung.0 ≡ false) × Due n rest)

-- no number is 0, and none stands twice
abbrev pub fresh : ℕ → List (Bool × ℕ) → Bool
fresh n [] = not (eqb n 0)
fresh n (rung ∷ rest) = not (eqb n rung.1) && fresh n rest

abbrev pub apart : List (Bool × ℕ) → Bool
apart [] = true
apart (rung ∷ rest) = fresh rung.1 rest && apart rest
