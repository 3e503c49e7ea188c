-- The lines that go with the head lines, and what is scanned after the size lines. Cited by `scan_rest` and the functions that fill the lent lists.
-- Definitions only. Assumes nothing.
use Rattle.std.specs.Prelude.{Bool, List, ℕ, ℤ, pos, get_or, Result, Ok, Err}
use Rattle.sheet.specs.Text.{excess_text}
use Rattle.scan.specs.Form.{Form, Found, Stopped}
use Rattle.scan.specs.Forms.{and_then, tailed}
use Rattle.sheet_scan.specs.declared.Sizes.{Sizes}
use Rattle.sheet_scan.specs.declared.StoreLines.{StoreLines}
use Rattle.sheet_scan.specs.Language.{limit_of_value}
use Rattle.sheet_scan.specs.Lines.{Row, store_lines, window_lines}
use Rattle.sheet_scan.specs.Rows.{excesses_of}

abbrev pub lines_of : Sizes → StoreLines → Form (List Row)
lines_of v w = window_lines v.lines v.window_size (limit_of_value w.bits) v.windows

-- the line of the rows' excesses, which has one right text
abbrev pub excess_line : ℕ → List Row → List ℕ
excess_line p rows = excess_text (excesses_of p rows)

-- the windows' lines and the line of their excesses
abbrev pub body_lines : Sizes → StoreLines → Form (List Row)
body_lines v w = tailed (lines_of v w) (excess_line w.precision)

-- all that comes after the size lines
abbrev pub rest_lines : Bool → Sizes → Form ((w : StoreLines) × List Row)
rest_lines wide v = and_then (store_lines wide) (body_lines v)

-- the store's lines and the windows' lines were found, or where all that comes after the size lines stops
abbrev pub ScansRest : Bool → Sizes → List ℕ → ℕ → Result (StoreLines × ℕ × ℕ) ℕ → Type 0
ScansRest wide v text at (Ok (w, mid, next)) = Found (store_lines wide) text at w mid × ((rows : List Row) × Found (lines_of v w) text mid rows next)
ScansRest wide v text at (Err stop) = Stopped (rest_lines wide v) text at stop

-- some value is there
abbrev pub There : {A : Type 0} → Form A → List ℕ → ℕ → Type 0
There {A} F text at = (a : A) × (next : ℕ) × Found F text at a next

-- whatever value is there, P holds of it and of the place after it
abbrev pub Whatever : {A : Type 0} → Form A → List ℕ → ℕ → (A → ℕ → Type 0) → Type 0
Whatever {A} F text at P = (a : A) (next : ℕ) → Found F text at a next → P a next

-- slot k of a window with these weights: 0 past them
abbrev pub slot_of : List ℤ → ℕ → ℤ
slot_of l k = get_or l k (pos 0)

abbrev pub no_weight : ℕ → ℤ
no_weight k = pos 0
