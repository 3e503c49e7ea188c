-- When windows fit their lists: document 01's No. 10 as far as windows, counts of lists, a store's precision and excesses go; and what is left true where they do. Cited by the
-- contracts of `windows` and `excesses`, and by the refusals and inner contracts of the normalisers, the passes, the sheet writer and the readers. Definitions only. Assumes nothing.
use Rattle.std.specs.Prelude.{◌≡◌, Bool, not, ◌||◌, List, ℕ, ◌+◌, ◌*◌, ◌≤◌, ◌<◌, eqb, ltb, ℤ, pos, length, get_or}
use Rattle.std.specs.Int.Signed.{lt_z}
use Rattle.lists.specs.Ranges.{outside, bad_sides_value}
use Rattle.lists.specs.Tab.{any}
use Rattle.windows.specs.declared.Store.{Store}
use Rattle.windows.specs.Set.{Layout, Stored, windows, start, size, excess_of}
use Rattle.windows.specs.Store.{bad_precision}

-- No. 10: a window size outside 1 to 32,769; starts and sizes of different counts; slots that are not windows x window size
abbrev pub bad_counts : ℕ → ℕ → ℕ → ℕ → Bool
bad_counts window_size_value slots starts sizes = (outside 1 32769 window_size_value || not (eqb starts sizes)) || not (eqb slots (starts * window_size_value))

-- No. 10: a window of size 0, larger than the window size, or past the last camera line
abbrev pub bad_window : ℕ → ℕ → ℕ → ℕ → Bool
bad_window lines window_size_value start size = outside 1 window_size_value size || ltb lines (start + size)

module _ (l : Layout) where
  -- the same of the window of display line i
  abbrev pub bad_at : ℕ → Bool
  bad_at i = bad_window l.lines l.window_size_value (start l i) (size l i)

  -- No. 10 of a layout and so many slots: the counts, or some window
  abbrev pub bad_set : ℕ → Bool
  bad_set slots = bad_counts l.window_size_value slots (windows l) (length l.sizes) || any (windows l) bad_at

-- two numbers differ: one is below the other
abbrev pub differ : ℤ → ℤ → Bool
differ x y = lt_z x y || lt_z y x

module _ (s : Stored) where
  -- No. 10: the excess that the set has for window i is not the window's
  abbrev pub bad_excess : ℕ → Bool
  bad_excess i = differ (excess_of s i) (get_or s.excesses i (pos 0))

  -- No. 10: not one excess for each window, or a wrong one
  abbrev pub bad_excesses : Bool
  bad_excesses = not (eqb (length s.excesses) (windows s.set.layout)) || any (windows s.set.layout) bad_excess

  -- No. 10 of a stored set: its layout and slots, its precision, or its excesses
  abbrev pub bad_stored : Store → Bool
  bad_stored store = (bad_set s.set.layout (length s.set.weights) || bad_precision store s.precision) || bad_excesses

  -- No. 1 or No. 10 of it
  abbrev pub unfit : Store → Bool
  unfit store = bad_sides_value s.set.layout.lines (windows s.set.layout) || bad_stored store

-- what No. 1 and No. 10 leave true of a layout and so many slots where neither is due, in plain numbers. A function that does not know the count of camera lines
-- asks it of 8,192, the most there are
pub record Fits (l : Layout) (slots : ℕ) : Type 0 where
  pub some_line : 1 ≤ l.lines
  pub few_lines : l.lines ≤ 8192
  pub some_window : 1 ≤ windows l
  pub few_windows : windows l ≤ 8192
  pub some_slot : 1 ≤ l.window_size_value
  pub few_slots : l.window_size_value ≤ 32769
  pub pairs : length l.starts ≡ length l.sizes
  pub full : slots ≡ windows l * l.window_size_value
  pub some : (i : ℕ) → i < windows l → 1 ≤ size l i
  pub small : (i : ℕ) → i < windows l → size l i ≤ l.window_size_value
  pub ends : (i : ℕ) → i < windows l → start l i + size l i ≤ l.lines

-- each window's weights in use stand in the slots, and are few: what is asked where windows are read slot by slot
pub record InSlots (window_size_value : ℕ) (sizes : List ℕ) (slots : ℕ) : Type 0 where
  pub many : length sizes ≤ 8192
  pub wide : window_size_value ≤ 32769
  pub there : (i : ℕ) → i < length sizes → i * window_size_value + get_or sizes i 0 ≤ slots
  pub few : (i : ℕ) → i < length sizes → get_or sizes i 0 ≤ 8192
