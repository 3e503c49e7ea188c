-- The one test of the list functions of alpha, with its number. Rows.antt proves that the answer is what it says. Cited by Rows.antt. Assumes nothing.
use mathlib.Core.Bool.{Bool}
use mathlib.Core.List.{List, [], ◌∷◌}
use Prim.Native.Nat.{ℕ}
use lib.ListN.{length}
use Rattle.pixel_lists.specs.Lists.{bad_lists_value}

module _ (src dst : List ℕ) where
  abbrev pub rows : List (Bool × ℕ)
  rows = (bad_lists_value (length src) (length dst), 10) ∷ []
