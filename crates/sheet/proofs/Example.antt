-- Document 01's example, computed: its set gives its text, byte by byte, with the line of document 02's W-207 at its end; a window's line with a minus, and an excess with one. Cited by nothing: it shows that the definition
-- is the paper's. Assumes nothing.
use mathlib.Core.Path.{◌≡◌, refl}
use mathlib.Core.List.{List, [], ◌∷◌, ◌++◌}
use Prim.Native.Nat.{ℕ}
use lib.IntN.{ℤ, pos, negsuc}
use Rattle.text.specs.Text.{digit_count_value, decimal, signed, field_text, line_text}
use Rattle.filters.specs.declared.FilterType.TheVariants.{Box}
use Rattle.windows.specs.Set.{layout_of, set_of, stored_of}
use Rattle.windows.specs.Store.{store32}
use Rattle.sheet.specs.Keys.{kind_name}
use Rattle.sheet.specs.Text.{kind_text, sides_text, store_text, head_text, item_text, list_text, open_text, window_at, windows_text, excess_text, sheet_text_value}

-- two windows of two lines, three slots each
abbrev weights : List ℤ
weights = pos 1073741824 ∷ pos 1073741824 ∷ pos 0 ∷ pos 1073741824 ∷ pos 1073741824 ∷ pos 0 ∷ []

-- the lines of document 01
abbrev head : List ℕ
head =
    (107 ∷ 105 ∷ 110 ∷ 100 ∷ 61 ∷ 98 ∷ 111 ∷ 120 ∷ 10 ∷ [])
    ++ (105 ∷ 110 ∷ 61 ∷ 52 ∷ 10 ∷ [])
    ++ (111 ∷ 117 ∷ 116 ∷ 61 ∷ 50 ∷ 10 ∷ [])
    ++ (119 ∷ 105 ∷ 110 ∷ 100 ∷ 111 ∷ 119 ∷ 61 ∷ 51 ∷ 10 ∷ [])
    ++ (115 ∷ 116 ∷ 111 ∷ 114 ∷ 101 ∷ 61 ∷ 51 ∷ 50 ∷ 10 ∷ [])
    ++ (112 ∷ 114 ∷ 101 ∷ 99 ∷ 105 ∷ 115 ∷ 105 ∷ 111 ∷ 110 ∷ 61 ∷ 51 ∷ 49 ∷ 10 ∷ [])

abbrev first : List ℕ
first = 119 ∷ 48 ∷ 61 ∷ 48 ∷ 44 ∷ 50 ∷ 58 ∷ 49 ∷ 48 ∷ 55 ∷ 51 ∷ 55 ∷ 52 ∷ 49 ∷ 56 ∷ 50 ∷ 52 ∷ 44 ∷ 49 ∷ 48 ∷ 55 ∷ 51 ∷ 55 ∷ 52 ∷ 49 ∷ 56 ∷ 50 ∷ 52 ∷ 10 ∷ []

abbrev second : List ℕ
second = 119 ∷ 49 ∷ 61 ∷ 50 ∷ 44 ∷ 50 ∷ 58 ∷ 49 ∷ 48 ∷ 55 ∷ 51 ∷ 55 ∷ 52 ∷ 49 ∷ 56 ∷ 50 ∷ 52 ∷ 44 ∷ 49 ∷ 48 ∷ 55 ∷ 51 ∷ 55 ∷ 52 ∷ 49 ∷ 56 ∷ 50 ∷ 52 ∷ 10 ∷ []

-- excess=0,0
abbrev last : List ℕ
last = 101 ∷ 120 ∷ 99 ∷ 101 ∷ 115 ∷ 115 ∷ 61 ∷ 48 ∷ 44 ∷ 48 ∷ 10 ∷ []

pub example : sheet_text_value Box store32 (stored_of (set_of (layout_of 4 3 (0 ∷ 2 ∷ []) (2 ∷ 2 ∷ [])) weights) 31 (pos 0 ∷ pos 0 ∷ [])) ≡ head ++ first ++ second ++ last
unfolding sheet_text_value head_text kind_text sides_text store_text windows_text excess_text window_at open_text list_text item_text signed field_text line_text decimal digit_count_value kind_name
example = refl

-- w0=1,2:-4,24
pub minus_line : window_at (1 ∷ []) (2 ∷ []) 3 (negsuc 3 ∷ pos 24 ∷ pos 0 ∷ []) 0 ≡ 119 ∷ 48 ∷ 61 ∷ 49 ∷ 44 ∷ 50 ∷ 58 ∷ 45 ∷ 52 ∷ 44 ∷ 50 ∷ 52 ∷ 10 ∷ []
unfolding window_at open_text list_text item_text signed field_text decimal digit_count_value
minus_line = refl

-- excess=-1,0,12
pub minus_excess : excess_text (negsuc 0 ∷ pos 0 ∷ pos 12 ∷ []) ≡ 101 ∷ 120 ∷ 99 ∷ 101 ∷ 115 ∷ 115 ∷ 61 ∷ 45 ∷ 49 ∷ 44 ∷ 48 ∷ 44 ∷ 49 ∷ 50 ∷ 10 ∷ []
unfolding excess_text list_text item_text signed decimal digit_count_value
minus_excess = refl
