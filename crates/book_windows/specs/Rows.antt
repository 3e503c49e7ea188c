-- What a release book asks of the windows that windows' lines say. Cited by `count_windows`. Definitions only. Assumes nothing.
use Rattle.std.specs.Prelude.{List, ℕ, length}
use Rattle.lists.specs.Tab.{tab}
use Rattle.orders.specs.Negative.{some_negative_value}
use Rattle.sheet_scan.specs.Lines.{Row}
use Rattle.sheet_scan.specs.Rows.{size_at, slot_at, excess_at}
use Rattle.book_numbers.specs.Marks.{Mark, mark}

-- row i of the rows, at a precision p
abbrev pub row_mark : ℕ → List Row → ℕ → Mark
row_mark p rows i = mark p (excess_at p rows i) (some_negative_value (slot_at rows i) (size_at rows i))

-- all of them
abbrev pub row_marks : ℕ → List Row → List Mark
row_marks p rows = tab 0 (length rows) (row_mark p rows)
