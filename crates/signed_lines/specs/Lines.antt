-- A line of a key and a signed number. Cited by the story of a pixel and by the report of a release book. Definitions only. Assumes nothing.
use Rattle.std.specs.Prelude.{List, [], ◌∷◌, ◌++◌, ℕ, ℤ}
use Rattle.text.specs.Text.{signed}

-- a key, a number with its sign and a newline
unfoldable pub number_text : List ℕ → ℤ → List ℕ
number_text key z = key ++ signed z ++ (10 ∷ [])
