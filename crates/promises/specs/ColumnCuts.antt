-- "A range of columns computed alone equals those columns of the whole frame."
-- Two units cut the columns differently and compare: wherever the pass over the whole frame does not refuse, the pass over any range of its columns does not refuse
-- either, and what it writes is those columns of the whole, for every pass. Statements only. Assumes nothing.
use Rattle.std.specs.Prelude.{◌≡◌, List, ℕ, ◌+◌, ◌*◌, ◌≤◌, Float, length, Result, ⊤}
use Rattle.std.specs.Float.{nan}
use Rattle.windows.specs.Set.{Set, Stored, windows}
use Rattle.vertical.specs.Frame.{columns}
use Rattle.refusal.specs.declared.Refusal.{Refusal}
use Rattle.vertical.specs.Passed.{number_of}
use Rattle.vertical.specs.PassedF32.{number_of as numberOfF32}
use Rattle.vertical.specs.U16.{passed_u16, written_u16}
use Rattle.vertical.specs.F32.{passed_f32, written_f32}
use Rattle.vertical_u8.specs.U8.{passed_u8, written_u8}

-- of a pass over integers: `whole` is lent to the pass over the whole row, `list` to the pass over the range
abbrev pub ColumnsCut : (Stored → ℕ → ℕ → ℕ → ℕ → ℕ → Result ⊤ Refusal) → (Stored → List ℕ → ℕ → ℕ → ℕ → List ℕ → List ℕ) → Type 0
ColumnsCut passed written =
    (s : Stored) (src : List ℕ) (row : ℕ) (whole : List ℕ) → number_of (passed s (length src) row 0 row (length whole)) ≡ 0
    → (first count : ℕ) (list : List ℕ) → first + count ≤ row → length list ≡ windows s.set.layout * count
    → (number_of (passed s (length src) row first count (length list)) ≡ 0)
    × (written s src row first count list ≡ columns 0 row (windows s.set.layout) first count (written s src row 0 row whole))

abbrev pub ColumnsCutU16 : Type 0
ColumnsCutU16 = ColumnsCut passed_u16 written_u16

abbrev pub ColumnsCutU8 : Type 0
ColumnsCutU8 = ColumnsCut passed_u8 written_u8

abbrev pub ColumnsCutF32 : Type 0
ColumnsCutF32 =
    (s : Set Float) (src : List Float) (row : ℕ) (whole : List Float) → numberOfF32 (passed_f32 s src row 0 row (length whole)) ≡ 0
    → (first count : ℕ) (list : List Float) → first + count ≤ row → length list ≡ windows s.layout * count
    → (numberOfF32 (passed_f32 s src row first count (length list)) ≡ 0)
    × (written_f32 s src row first count list ≡ columns nan row (windows s.layout) first count (written_f32 s src row 0 row whole))
