-- A frame with rows and columns exchanged, its pixels staying whole, and the output of a pass along the rows. Cited by the definition of the sideways pass and by the
-- promises. Definitions only. Assumes nothing.
use Rattle.std.specs.Prelude.{List, ℕ, ◌+◌, ◌*◌, ◌/◌, ◌%◌, take, drop}
use Rattle.lists.specs.Tab.{tab, grid}
use Rattle.vertical.specs.Frame.{frame}

-- the exchanged frame of one in rows of `row` samples, by line and column: its line x has the pixels x of all rows, one after the other, so that its column
-- y x components + k has component k of row y; d stands for a sample that is not there
abbrev pub turned : {A : Type 0} → A → List A → ℕ → ℕ → ℕ → ℕ → A
turned d src components row x column = frame d src row (column / components) (x * components + column % components)

-- the same as a list: `rows` rows of `row` samples become row / components lines of rows x components samples
unfoldable pub exchanged : {A : Type 0} → A → ℕ → ℕ → ℕ → List A → List A
exchanged d components rows row src =
    tab 0 (row / components * (rows * components)) (grid (rows * components) (turned d src components row))

-- what a pass along the rows writes: for each row from first on, count of them, a pixel for each window; so component k of window i of the y-th of them stands at place
-- ((y x windows) + i) x components + k. `at i column` is its value, at the exchanged frame's column
abbrev pub side_output : {A : Type 0} → (ℕ → ℕ → A) → ℕ → ℕ → ℕ → ℕ → List A
side_output at components windows first count =
    tab 0 (count * (windows * components)) (grid (windows * components) (λ y. grid components (λ i k. at i ((first + y) * components + k))))

-- `count` of the rows of w samples from first on
abbrev pub rows_of : {A : Type 0} → ℕ → ℕ → ℕ → List A → List A
rows_of w first count whole = take (count * w) (drop (first * w) whole)
