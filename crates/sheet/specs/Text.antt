-- The text of a sheet: six head lines, one line for each window, then the line of the excesses, a newline after each. Cited by the writers and by the parts that write it.
-- Definitions only. Assumes nothing.
use Rattle.std.specs.Prelude.{cond, List, [], ◌++◌, ℕ, ◌+◌, ◌*◌, eqb, ℤ, pos, length, get_or}
use Rattle.text.specs.Text.{joined, signed, field_text, line_text}
use Rattle.filters.specs.declared.FilterType.{FilterType}
use Rattle.windows.specs.declared.Store.{Store}
use Rattle.windows.specs.Set.{Stored, windows}
use Rattle.windows.specs.Store.{weight_bits}
use Rattle.sheet.specs.Keys.{newline, key_kind, key_in, key_out, key_window, key_store, key_precision, key_line, key_excess, equals, comma, colon, kind_name}

-- the filter's line
unfoldable pub kind_text : FilterType → List ℕ
kind_text kind = key_kind ++ kind_name kind ++ newline

-- the camera lines, the display lines and the window size, a line each
unfoldable pub sides_text : ℕ → ℕ → ℕ → List ℕ
sides_text lines outs window = line_text key_in lines ++ line_text key_out outs ++ line_text key_window window

-- the bits of the store and the precision, a line each
unfoldable pub store_text : ℕ → ℕ → List ℕ
store_text store precision = line_text key_store store ++ line_text key_precision precision

-- the six head lines
unfoldable pub head_text : FilterType → ℕ → ℕ → ℕ → ℕ → ℕ → List ℕ
head_text kind lines outs window store precision = kind_text kind ++ sides_text lines outs window ++ store_text store precision

-- number j of a list: a comma before all but the first
unfoldable pub item_text : ℕ → ℤ → List ℕ
item_text j v = cond (eqb j 0) [] comma ++ signed v

-- the same, of the number at the place from + j
abbrev pub item_at : List ℤ → ℕ → ℕ → List ℕ
item_at ws from j = item_text j (get_or ws (from + j) (pos 0))

-- n numbers from the place `from` on
unfoldable pub list_text : List ℤ → ℕ → ℕ → List ℕ
list_text ws from n = joined (item_at ws from) n

-- the beginning of a window's line: its number, first camera line and count of lines, as in w0=0,2:
unfoldable pub open_text : ℕ → ℕ → ℕ → List ℕ
open_text i start size = field_text key_line i ++ field_text equals start ++ field_text comma size ++ colon

-- the line of window i, whose weights begin at the slot i * window: those in use
unfoldable pub window_at : List ℕ → List ℕ → ℕ → List ℤ → ℕ → List ℕ
window_at starts sizes window ws i = open_text i (get_or starts i 0) (get_or sizes i 0) ++ list_text ws (i * window) (get_or sizes i 0) ++ newline

-- a line for each window, numbered from 0
unfoldable pub windows_text : List ℕ → List ℕ → ℕ → List ℤ → List ℕ
windows_text starts sizes window ws = joined (window_at starts sizes window ws) (length starts)

-- the line of the excesses, as in excess=0,0
unfoldable pub excess_text : List ℤ → List ℕ
excess_text es = key_excess ++ list_text es 0 (length es) ++ newline

-- the whole sheet of a stored set; the store is named by its weights' bits, 16 or 32
unfoldable pub sheet_text_value : FilterType → Store → Stored → List ℕ
sheet_text_value kind store s =
    head_text kind s.set.layout.lines (windows s.set.layout) s.set.layout.window_size_value (weight_bits store) s.precision
    ++ windows_text s.set.layout.starts s.set.layout.sizes s.set.layout.window_size_value s.set.weights
    ++ excess_text s.excesses
