-- The set that the windows' lines say: starts, sizes and weights of each row, 0 in the slots past a row's weights, and each row's excess. Cited by the functions that
-- fill the lent lists. Definitions only. Assumes nothing.
use Rattle.std.specs.Prelude.{List, [], ℕ, ◌*◌, ℤ, pos, length, get_or}
use Rattle.lists.specs.Tab.{tab, grid}
use Rattle.windows.specs.Set.{Stored, layout_of, set_of, stored_of, excess}
use Rattle.sheet_scan.specs.Lines.{Row}

abbrev pub no_row : Row
no_row = record { start = 0; size = 0; weights = [] }

-- what row i of the rows says
abbrev pub start_at : List Row → ℕ → ℕ
start_at rows i = (get_or rows i no_row).start

abbrev pub size_at : List Row → ℕ → ℕ
size_at rows i = (get_or rows i no_row).size

abbrev pub slot_at : List Row → ℕ → ℕ → ℤ
slot_at rows i k = get_or (get_or rows i no_row).weights k (pos 0)

-- the excess of row i at a precision p, and those of all rows
abbrev pub excess_at : ℕ → List Row → ℕ → ℤ
excess_at p rows i = excess p (slot_at rows i) (size_at rows i)

abbrev pub excesses_of : ℕ → List Row → List ℤ
excesses_of p rows = tab 0 (length rows) (excess_at p rows)

-- the stored set of the rows
abbrev pub set_of_rows : ℕ → ℕ → ℕ → List Row → Stored
set_of_rows lines window_size_value precision rows =
    stored_of
    (set_of (layout_of lines window_size_value (tab 0 (length rows) (start_at rows)) (tab 0 (length rows) (size_at rows))) (tab 0 (length rows * window_size_value) (grid window_size_value (slot_at rows))))
    precision
    (excesses_of precision rows)
