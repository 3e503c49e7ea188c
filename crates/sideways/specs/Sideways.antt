-- The sideways u16 pass: its refusals in the order of their numbers, and the output. The value is the vertical pass's, of the exchanged frame. Cited by its contract and
-- by the promises. The set's lines are the pixels of a row. Definitions only. Assumes nothing.
use Rattle.std.specs.Prelude.{Bool, cond, not, ◌||◌, List, ℕ, ◌*◌, ◌%◌, eqb, length, Result, Err, ⊤}
use Rattle.lists.specs.Ranges.{outside}
use Rattle.refusal.specs.declared.Refusal.TheVariants.{BadSide}
use Rattle.windows.specs.Set.{Stored, windows}
use Rattle.refusal.specs.declared.Refusal.{Refusal}
use Rattle.vertical.specs.Passed.{after}
use Rattle.vertical.specs.U16.{value_at, passed_u16}
use Rattle.sideways.specs.Exchange.{turned, side_output}

-- No. 1: a component count outside 1 to 4, or a row that is no whole number of pixels
abbrev pub bad_pixels : ℕ → ℕ → Bool
bad_pixels components row = outside 1 4 components || not (eqb (row % components) 0)

-- the answer, for a frame of so many samples in `rows` rows of `row`, the rows from first on, count of them, and an output with room for so many: the pixels' own No. 1,
-- then as the vertical pass answers for the exchanged frame, whose rows are rows x components long
unfoldable pub passed_sideways : Stored → ℕ → ℕ → ℕ → ℕ → ℕ → ℕ → ℕ → Result ⊤ Refusal
passed_sideways s samples components rows row first count room =
    cond (bad_pixels components row) (Err BadSide)
    (passed_u16 s samples (rows * components) (first * components) (count * components) room)

-- what `old` holds after it
unfoldable pub written_sideways : Stored → List ℕ → ℕ → ℕ → ℕ → ℕ → ℕ → List ℕ → List ℕ
written_sideways s src components rows row first count old =
    after (passed_sideways s (length src) components rows row first count (length old))
    (side_output (value_at 65535 s (turned 0 src components row)) components (windows s.set.layout) first count) old
