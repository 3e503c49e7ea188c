-- "The sideways pass equals the vertical pass on the frame with rows and columns exchanged; a range of rows computed alone equals those rows of the whole."
-- Statements only. Assumes nothing.
use Rattle.std.specs.Prelude.{◌≡◌, false, List, ℕ, ◌+◌, ◌*◌, ◌/◌, ◌≤◌, length, Ok}
use Rattle.windows.specs.Set.{Stored, windows}
use Rattle.vertical.specs.U16.{passed_u16, written_u16}
use Rattle.sideways.specs.Exchange.{exchanged, rows_of}
use Rattle.sideways.specs.Sideways.{bad_pixels, passed_sideways, written_sideways}

-- a frame of whole pixels is refused as the vertical pass refuses the exchanged frame, for any room
abbrev pub SidewaysAnswers : Type 0
SidewaysAnswers =
    (s : Stored) (src : List ℕ) (components rows row first count room : ℕ) → bad_pixels components row ≡ false → length src ≡ rows * row
    → passed_sideways s (length src) components rows row first count room
    ≡ passed_u16 s (length (exchanged 0 components rows row src)) (rows * components) (first * components) (count * components) room

-- wherever the sideways pass does not refuse, neither does the vertical pass on the exchanged frame, and each output is the other one exchanged
abbrev pub SidewaysIsVertical : Type 0
SidewaysIsVertical =
    (s : Stored) (src : List ℕ) (components rows row first count : ℕ) (old : List ℕ) → s.set.layout.lines ≡ row / components
    → passed_sideways s (length src) components rows row first count (length old) ≡ Ok tt
    → let vertical = written_u16 s (exchanged 0 components rows row src) (rows * components) (first * components) (count * components) old in
    let sideways = written_sideways s src components rows row first count old in
    (passed_u16 s (length (exchanged 0 components rows row src)) (rows * components) (first * components) (count * components) (length old) ≡ Ok tt)
    × (exchanged 0 components count (windows s.set.layout * components) sideways ≡ vertical)
    × (sideways ≡ exchanged 0 components (windows s.set.layout) (count * components) vertical)

-- `whole` is lent to the pass over all rows, `list` to the pass over the range
abbrev pub RowsCut : Type 0
RowsCut =
    (s : Stored) (src : List ℕ) (components rows row : ℕ) (whole : List ℕ) → passed_sideways s (length src) components rows row 0 rows (length whole) ≡ Ok tt
    → (first count : ℕ) (list : List ℕ) → first + count ≤ rows → length list ≡ count * (windows s.set.layout * components)
    → (passed_sideways s (length src) components rows row first count (length list) ≡ Ok tt)
    × (written_sideways s src components rows row first count list ≡ rows_of (windows s.set.layout * components) first count (written_sideways s src components rows row 0 rows whole))
