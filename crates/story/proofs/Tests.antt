-- The tests of `story` in the order of judging, each with its number. Rows.antt proves that the answer is what they say. Cited by Rows.antt. Assumes nothing.
use mathlib.Core.Bool.{Bool, ◌||◌}
use mathlib.Core.List.{List, [], ◌∷◌}
use Prim.Native.Nat.{ℕ}
use lib.ListN.{length}
use Rattle.windows.specs.Set.{Stored, windows}
use Rattle.windows.specs.Store.{store32}
use Rattle.windows.specs.Fit.{bad_stored}
use Rattle.sheet.specs.Answer.{no_room}
use Rattle.vertical.specs.Frame.{bad_size, bad_frame}
use Rattle.story.specs.Answer.{bad_place, text_of}

module _ (s : Stored) (src : List ℕ) (row i j room : ℕ) where
  -- sides and row; stored set, frame and place; room for the text
  abbrev pub rows : List (Bool × ℕ)
  rows =
      (bad_size s.set.layout.lines (windows s.set.layout) row, 1)
      ∷ ((bad_stored s store32 || bad_frame (length src) s.set.layout.lines row) || bad_place (windows s.set.layout) row i j, 10)
      ∷ (no_room room (length (text_of s src row i j)), 11)
      ∷ []
