-- "A rectangle of the display, computed by a unit that runs only its own windows of both sets, sideways and then down, equals that rectangle of the whole frame bit for bit."
-- The unit reads the camera frame, not what another unit wrote. Stated over what the two passes write. Statements only. Assumes nothing.
use Rattle.std.specs.Prelude.{◌≡◌, List, ℕ, ◌+◌, ◌*◌, ◌≤◌, length}
use Rattle.windows.specs.Set.{Stored, windows}
use Rattle.vertical.specs.Frame.{columns}
use Rattle.vertical.specs.Passed.{number_of}
use Rattle.vertical.specs.U16.{passed_u16, written_u16}
use Rattle.sideways.specs.Exchange.{rows_of}
use Rattle.sideways.specs.Sideways.{passed_sideways, written_sideways}
use Rattle.window_cuts.specs.Run.{run_of}

-- of a frame in rows of `row` samples the rows from b on, m of them, and of each the samples from first on, count of them
abbrev pub rectangle : ℕ → ℕ → ℕ → ℕ → ℕ → List ℕ → List ℕ
rectangle row b m first count whole = columns 0 row m first count (rows_of row b m whole)

-- sideways over all rows with one set, then down over all columns with another: what stood in the two lists lent is `between` and `old`
module _ (across down : Stored) (src : List ℕ) (components rows row : ℕ) (between old : List ℕ) where
  -- the samples of a row after the first pass, and its output
  abbrev wide : ℕ
  wide = windows across.set.layout * components

  abbrev narrowed : List ℕ
  narrowed = written_sideways across src components rows row 0 rows between

  -- neither pass refuses
  pub record BothDone : Type 0 where
    pub sideways : number_of (passed_sideways across (length src) components rows row 0 rows (length between)) ≡ 0
    pub vertical : number_of (passed_u16 down (length narrowed) wide 0 wide (length old)) ≡ 0

  abbrev pub displayed : List ℕ
  displayed = written_u16 down narrowed wide 0 wide old

-- the unit has the windows from a on, n of them, of the set across, and those from b on, m of them, of the set down
abbrev pub RectangleCut : Type 0
RectangleCut =
    (across down : Stored) (src : List ℕ) (components rows row : ℕ) (between whole : List ℕ) → BothDone across down src components rows row between whole
    → (a n b m : ℕ) (part list : List ℕ) → 1 ≤ n → a + n ≤ windows across.set.layout → 1 ≤ m → b + m ≤ windows down.set.layout
    → length part ≡ rows * (n * components) → length list ≡ m * (n * components)
    → BothDone (run_of across a n) (run_of down b m) src components rows row part list
    × (displayed (run_of across a n) (run_of down b m) src components rows row part list
    ≡ rectangle (windows across.set.layout * components) b m (a * components) (n * components) (displayed across down src components rows row between whole))
