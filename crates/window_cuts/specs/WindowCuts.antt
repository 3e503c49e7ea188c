-- "A run of a set's windows computed alone gives those display lines, or columns, of the whole."
-- Wherever the pass with all windows does not refuse, the pass with a run of them does not refuse either. A run has one window at least, since a set of none is refused.
-- `whole` is lent to the pass with all windows, `list` to the pass with the run. Statements only. Assumes nothing.
use Rattle.std.specs.Prelude.{◌≡◌, List, ℕ, ◌+◌, ◌*◌, ◌≤◌, length}
use Rattle.windows.specs.Set.{Stored, windows}
use Rattle.vertical.specs.Frame.{columns}
use Rattle.vertical.specs.Passed.{number_of}
use Rattle.vertical.specs.U16.{passed_u16, written_u16}
use Rattle.sideways.specs.Exchange.{rows_of}
use Rattle.sideways.specs.Sideways.{passed_sideways, written_sideways}
use Rattle.window_cuts.specs.Run.{run_of}

-- down: the display lines from a on, n of them
abbrev pub WindowsCut : Type 0
WindowsCut =
    (s : Stored) (src : List ℕ) (row first count : ℕ) (whole : List ℕ) → number_of (passed_u16 s (length src) row first count (length whole)) ≡ 0
    → (a n : ℕ) (list : List ℕ) → 1 ≤ n → a + n ≤ windows s.set.layout → length list ≡ n * count
    → (number_of (passed_u16 (run_of s a n) (length src) row first count (length list)) ≡ 0)
    × (written_u16 (run_of s a n) src row first count list ≡ rows_of count a n (written_u16 s src row first count whole))

-- sideways: of each row the display columns from a on, n of them, each a pixel
abbrev pub WindowsCutSideways : Type 0
WindowsCutSideways =
    (s : Stored) (src : List ℕ) (components rows row first count : ℕ) (whole : List ℕ) → number_of (passed_sideways s (length src) components rows row first count (length whole)) ≡ 0
    → (a n : ℕ) (list : List ℕ) → 1 ≤ n → a + n ≤ windows s.set.layout → length list ≡ count * (n * components)
    → (number_of (passed_sideways (run_of s a n) (length src) components rows row first count (length list)) ≡ 0)
    × (written_sideways (run_of s a n) src components rows row first count list
    ≡ columns 0 (windows s.set.layout * components) count (a * components) (n * components) (written_sideways s src components rows row first count whole))
