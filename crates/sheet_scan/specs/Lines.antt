-- The forms of a sheet's lines, in the writer's words. Cited by the scanners. Definitions only. Assumes nothing.
use Rattle.std.specs.Prelude.{Bool, cond, List, ◌++◌, ℕ, suc, ◌+◌, ◌≤◌, eqb, ℤ}
use Rattle.text.specs.Text.{decimal, line_text}
use Rattle.filters.specs.declared.FilterType.{FilterType}
use Rattle.windows.specs.Store.{largest_precision}
use Rattle.sheet.specs.Keys.{kind_name, newline, key_store}
use Rattle.sheet.specs.Text.{kind_text, sides_text, store_text, open_text}
use Rattle.scan.specs.Form.{Form}
use Rattle.scan.specs.Forms.{run_text, RunGood, run}
use Rattle.scan.specs.Number.{signeds}
use Rattle.sheet_scan.specs.declared.Sizes.{Sizes}
use Rattle.sheet_scan.specs.declared.StoreLines.{StoreLines}
use Rattle.sheet_scan.specs.Language.{Taken, store_named_value}

-- the filter's name and a newline
abbrev pub name_line : Form FilterType
name_line = record { Good = λ kind. Unit; text = λ kind. kind_name kind ++ newline }

-- the filter's line
abbrev pub kind_line : Form FilterType
kind_line = record { Good = λ kind. Unit; text = kind_text }

abbrev pub Between : ℕ → ℕ → ℕ → Type 0
Between low high n = (low ≤ n) × (n ≤ high)

-- the kind line and the three size lines: both sides 1 to 8,192, the window size 1 to 32,769
abbrev pub size_lines : Form Sizes
size_lines = record {
  Good = λ v. Between 1 8192 v.lines × Between 1 8192 v.windows × Between 1 32769 v.window_size;
  text = λ v. kind_text v.kind ++ sides_text v.lines v.windows v.window_size;
}

-- the store's bits and a newline
abbrev pub bits_line : Bool → Form ℕ
bits_line wide = record { Good = Taken wide; text = λ n. decimal n ++ newline }

-- the store's line
abbrev pub store_line : Bool → Form ℕ
store_line wide = record { Good = Taken wide; text = λ n. line_text key_store n }

-- the store's line and the precision's: 4 to 21 with 16 bits, 4 to 45 with 32
abbrev pub store_lines : Bool → Form StoreLines
store_lines wide = record {
  Good = λ v. Taken wide v.bits × Between 4 (largest_precision (store_named_value v.bits)) v.precision;
  text = λ v. store_text v.bits v.precision;
}

-- weight j of `size`: a comma after all but the last, a newline after that
abbrev pub weight_item : ℕ → ℕ → ℕ → Form ℤ
weight_item limit size j = signeds limit (cond (eqb (suc j) size) 10 44)

-- the beginning of the line of window i, up to its colon: its start and size
abbrev pub open_line : ℕ → ℕ → ℕ → Form (ℕ × ℕ)
open_line lines window_size_value i = record {
  Good = λ p. (1 ≤ p.1) × (p.1 ≤ window_size_value) × (p.0 + p.1 ≤ lines);
  text = λ p. open_text i p.0 p.1;
}

-- a window as its line says it
pub record Row : Type 0 where
  pub start : ℕ
  pub size : ℕ
  pub weights : List ℤ

-- the line of window i: a window of `lines` camera lines, of 1 to `window_size_value` of them
abbrev pub window_line : ℕ → ℕ → ℕ → ℕ → Form Row
window_line lines window_size_value limit i = record {
  Good = λ r. (1 ≤ r.size) × (r.size ≤ window_size_value) × (r.start + r.size ≤ lines) × RunGood (weight_item limit r.size) 0 r.size r.weights;
  text = λ r. open_text i r.start r.size ++ run_text (weight_item limit r.size) 0 r.weights;
}

-- a line for each of the windows
abbrev pub window_lines : ℕ → ℕ → ℕ → ℕ → Form (List Row)
window_lines lines window_size_value limit windows = run (window_line lines window_size_value limit) 0 windows
