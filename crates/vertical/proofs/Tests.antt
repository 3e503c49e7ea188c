-- The tests of the passes in the order of judging, each with its number. Rows.antt proves that the answers are what they say. Cited by Rows.antt. Assumes nothing.
use mathlib.Core.Bool.{Bool, ◌||◌}
use mathlib.Core.List.{List, [], ◌∷◌}
use Prim.Native.Nat.{ℕ}
use lib.Ieee.{Float}
use lib.ListN.{length}
use Rattle.windows.specs.Set.{Set, Stored, windows}
use Rattle.windows.specs.Store.{store32}
use Rattle.windows.specs.Fit.{bad_stored}
use Rattle.vertical.specs.Frame.{bad_size, bad_area, bad_shape}
use Rattle.vertical.specs.F32.{bad_weights, bad_samples}

module _ (s : Stored) (samples row first count room : ℕ) where
  -- the tests in the order of judging, each with its number: sides and row; the stored set, frame and columns
  abbrev pub rows_u16 : List (Bool × ℕ)
  rows_u16 =
      (bad_size s.set.layout.lines (windows s.set.layout) row, 1)
      ∷ (bad_stored s store32 || bad_area s.set.layout.lines (windows s.set.layout) samples row first count room, 10)
      ∷ []

module _ (s : Set Float) (src : List Float) (row first count room : ℕ) where
  -- sides and row; set, frame and columns; weights and samples in use
  abbrev pub rows_f32 : List (Bool × ℕ)
  rows_f32 =
      (bad_size s.layout.lines (windows s.layout) row, 1)
      ∷ (bad_shape s.layout (length s.weights) (length src) row first count room, 10)
      ∷ (bad_weights s || bad_samples s src row first count, 12)
      ∷ []
