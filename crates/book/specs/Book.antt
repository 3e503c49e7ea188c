-- The release book of a text, from its sheets alone: the text is split into the longest run of whole acceptable sheets, and the numbers are counts and extremes over their
-- windows. Cited by the contract of `book` and by the theorems here. Definitions only. Assumes nothing.
use Rattle.std.specs.Prelude.{Result, Ok, Err, ◌≡◌, true, List, [], ◌∷◌, ◌++◌, ◌⊎◌, ℕ, ◌+◌, ◌-◌, length}
use Rattle.refusal.specs.declared.Refusal.TheVariants.{NotASheet}
use Rattle.refusal.specs.Refusal.{number_of}
use Rattle.scan.specs.Form.{Found, Stopped}
use Rattle.sheet_scan.specs.Language.{Whole, Longest, sheets}
use Rattle.book_numbers.specs.declared.Report.{Report}
use Rattle.book_numbers.specs.Marks.{Mark, marks_of, numbers_of}

-- the texts of some sheets, end to end
abbrev pub texts_of : List Whole → List ℕ
texts_of [] = []
texts_of (x ∷ run) = (sheets true).text x ++ texts_of run

-- each of them is acceptable, of either store
abbrev pub AllGood : List Whole → Type 0
AllGood [] = Unit
AllGood (x ∷ run) = (sheets true).Good x × AllGood run

-- a text is the sheets of the run, end to end, and a rest that no sheet begins
pub record Split (text : List ℕ) (run : List Whole) (rest : List ℕ) : Type 0 where
  pub good : AllGood run
  pub is : text ≡ texts_of run ++ rest
  pub ends : (x : Whole) (t : List ℕ) → (sheets true).Good x → rest ≡ (sheets true).text x ++ t → ⊥

-- the windows of all sheets of a run, in their order
abbrev pub all_marks : List Whole → List Mark
all_marks [] = []
all_marks (x ∷ run) = marks_of x.set ++ all_marks run

-- why a run ended: 0 at the end of the text, else No. 13
abbrev pub stopped_at : List ℕ → ℕ
stopped_at [] = 0
stopped_at (b ∷ rest) = number_of NotASheet

-- the report of a text: the numbers of its run, and the byte up to which the text goes on as sheets do
pub record BookOf (text : List ℕ) (r : Report) : Type 0 where
  pub run : List Whole
  pub rest : List ℕ
  pub split : Split text run rest
  pub right : ℕ
  pub longest : Longest true rest right
  pub is : r ≡ numbers_of (length run) (all_marks run) (stopped_at rest) (length (texts_of run) + right)

-- a scan of one sheet answers its report, or where the text stops being like a sheet
abbrev pub SheetOf : List ℕ → ℕ → Result Report ℕ → Type 0
SheetOf text at (Ok r) = (x : Whole) × (next : ℕ) × Found (sheets true) text at x next × (r ≡ numbers_of 1 (marks_of x.set) 0 (next - at))
SheetOf text at (Err stop) = Stopped (sheets true) text at stop

-- the report of the text from a place on, up to the end of its first sheet: that sheet's, or that of none
abbrev pub FirstOf : List ℕ → ℕ → Report → Type 0
FirstOf text at r =
    ((x : Whole) × (next : ℕ) × Found (sheets true) text at x next × (r ≡ numbers_of 1 (marks_of x.set) 0 (next - at)))
    ⊎ ((stop : ℕ) × Stopped (sheets true) text at stop × (r ≡ numbers_of 0 [] (number_of NotASheet) (stop - at)))
