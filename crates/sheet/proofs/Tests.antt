-- The tests of a writer in the order of judging, each with its number. Rows.antt proves that the answer is what they say. Cited by Rows.antt. Assumes nothing.
use mathlib.Core.Bool.{Bool}
use mathlib.Core.List.{List, [], ◌∷◌}
use Prim.Native.Nat.{ℕ}
use lib.ListN.{length}
use Rattle.lists.specs.Ranges.{bad_sides_value}
use Rattle.filters.specs.declared.FilterType.{FilterType}
use Rattle.windows.specs.declared.Store.{Store}
use Rattle.windows.specs.Set.{Stored, windows}
use Rattle.windows.specs.Fit.{bad_stored}
use Rattle.sheet.specs.Answer.{no_room}
use Rattle.sheet.specs.Text.{sheet_text_value}

module _ (kind : FilterType) (store : Store) (s : Stored) (room : ℕ) where
  -- the tests in the order of judging, each with its number: sides; lists, windows, precision and excesses; room for the text
  abbrev pub rows : List (Bool × ℕ)
  rows =
      (bad_sides_value s.set.layout.lines (windows s.set.layout), 1)
      ∷ (bad_stored s store, 10)
      ∷ (no_room room (length (sheet_text_value kind store s)), 11)
      ∷ []
