-- The story of a pixel as text: a line for each camera line of the window, in line order, then total, half, shifted value, clip and final number. Every number is one of
-- the u16 pass's own definitions. Cited by the parts that write it, by `story`'s contract and by the promises. Definitions only. Assumes nothing.
use Rattle.std.specs.Prelude.{cond, List, ◌++◌, ℕ, ◌+◌, ◌-◌, ◌^◌, ℤ, pos, ◌*ℤ◌}
use Rattle.std.specs.Int.Signed.{lt_z}
use Rattle.integers.specs.Sums.{total, rounded, value}
use Rattle.text.specs.Text.{joined, signed, field_text, line_text}
use Rattle.signed_lines.specs.Lines.{number_text}
use Rattle.sheet.specs.Keys.{comma, newline}
use Rattle.windows.specs.Set.{Stored, start, size, weight, sample}
use Rattle.story_text.specs.Keys.{key_line, key_total, key_half, key_shifted, key_clip, key_final, word_low, word_high, word_none}

-- weight times sample, the term that the pass adds up
abbrev pub product : ℤ → ℕ → ℤ
product w s = w *ℤ pos s

-- a number behind a comma
unfoldable pub part_text : ℤ → List ℕ
part_text z = comma ++ signed z

-- one camera line: its number, weight, sample and product, as in line=0,8,1,8
unfoldable pub camera_text : ℕ → ℤ → ℕ → List ℕ
camera_text line w s = field_text key_line line ++ part_text w ++ field_text comma s ++ part_text (product w s) ++ newline

-- line k of a window that starts at camera line `start`
abbrev pub camera_at : ℕ → (ℕ → ℤ) → (ℕ → ℕ) → ℕ → List ℕ
camera_at start w s k = camera_text (start + k) (w k) (s k)

-- the n camera lines of a window, in line order
unfoldable pub lines_text : ℕ → (ℕ → ℤ) → (ℕ → ℕ) → ℕ → List ℕ
lines_text start w s n = joined (camera_at start w s) n

-- which side the clip to 0 .. M cut off: low below 0, high above M, else none
unfoldable pub clip_word : ℕ → ℤ → List ℕ
clip_word M z = cond (lt_z z (pos 0)) word_low (cond (lt_z (pos M) z) word_high word_none)

unfoldable pub clip_text : ℤ → List ℕ
clip_text z = key_clip ++ clip_word 65535 z ++ newline

-- the five lines after the camera lines
unfoldable pub end_text : ℤ → ℕ → ℤ → ℕ → List ℕ
end_text total half shifted final =
    number_text key_total total ++ number_text key_half (pos half) ++ number_text key_shifted shifted ++ clip_text shifted ++ line_text key_final final

-- the story of one window at one column: weights w and samples s over the n lines from `start` on, precision p
unfoldable pub window_text : ℕ → ℕ → (ℕ → ℤ) → (ℕ → ℕ) → ℕ → List ℕ
window_text p start w s n = lines_text start w s n ++ end_text (total w s n) (2 ^ (p - 1)) (rounded p w s n) (value 65535 p w s n)

-- the story of display line i and column j of a stored set, over a frame given by camera line and column
abbrev pub story_text_value : Stored → (ℕ → ℕ → ℕ) → ℕ → ℕ → List ℕ
story_text_value s samples i j = window_text s.precision (start s.set.layout i) (weight s.set (pos 0) i) (sample s.set.layout samples i j) (size s.set.layout i)
