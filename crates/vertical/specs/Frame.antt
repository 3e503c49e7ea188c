-- A frame of samples in one list, a range of its columns, and the output of a pass over them. Cited by the definitions of both passes, and by the promises.
-- Definitions only. Assumes nothing.
use Rattle.std.specs.Prelude.{Bool, not, ◌||◌, List, ℕ, ◌+◌, ◌*◌, eqb, ltb, get_or, take, drop}
use Rattle.lists.specs.Ranges.{outside, bad_sides_value}
use Rattle.lists.specs.Tab.{tab, grid}
use Rattle.windows.specs.Set.{Layout, windows}
use Rattle.windows.specs.Fit.{bad_set}

-- the sample of a camera line at a column, where the lines stand one after the other in rows of `row` samples; d stands for a sample that is not there
abbrev pub frame : {A : Type 0} → A → List A → ℕ → ℕ → ℕ → A
frame d src row line column = get_or src (line * row + column) d

-- what a pass writes: a row for each window, the columns from first on, count of them. `at i j` is the value of window i at column j
abbrev pub output : {A : Type 0} → (ℕ → ℕ → A) → ℕ → ℕ → ℕ → List A
output at windows first count = tab 0 (windows * count) (grid count (λ i j. at i (first + j)))

-- row i of what a pass wrote
abbrev pub row_of : {A : Type 0} → ℕ → ℕ → List A → List A
row_of count i out = take count (drop (i * count) out)

-- the same columns, taken from the output over the whole row
abbrev pub columns : {A : Type 0} → A → ℕ → ℕ → ℕ → ℕ → List A → List A
columns d row windows first count whole = tab 0 (windows * count) (grid count (λ i j. get_or whole (i * row + (first + j)) d))

-- No. 1: a side, or a row length outside 1 to 32,768
abbrev pub bad_size : ℕ → ℕ → ℕ → Bool
bad_size lines windows row = bad_sides_value lines windows || outside 1 32768 row

-- No. 10: a source length that is not lines x row length
abbrev pub bad_frame : ℕ → ℕ → ℕ → Bool
bad_frame samples lines row = not (eqb samples (lines * row))

-- No. 10: columns past the row; an output length that is not windows x count
abbrev pub bad_range : ℕ → ℕ → ℕ → ℕ → ℕ → Bool
bad_range row first count windows room = ltb row (first + count) || not (eqb room (windows * count))

-- No. 10 of a frame and of the columns asked of it
abbrev pub bad_area : ℕ → ℕ → ℕ → ℕ → ℕ → ℕ → ℕ → Bool
bad_area lines windows samples row first count room = bad_frame samples lines row || bad_range row first count windows room

-- No. 10 of the f32 pass: the set, or the frame and the columns
abbrev pub bad_shape : Layout → ℕ → ℕ → ℕ → ℕ → ℕ → ℕ → Bool
bad_shape l slots samples row first count room = bad_set l slots || bad_area l.lines (windows l) samples row first count room
