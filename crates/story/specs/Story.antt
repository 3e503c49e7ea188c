-- What the theorems on a story speak of: its text cut at the newlines, the camera lines that it names, and the words of the clip as ranges. Cited by the theorems here and
-- by the promises. Definitions only. Assumes nothing.
use Rattle.std.specs.Prelude.{◌≡◌, cond, List, [], ◌∷◌, ◌++◌, ℕ, ◌+◌, ◌-◌, ◌^◌, ◌≤◌, ◌<◌, eqb, ℤ, pos}
use Rattle.integers.specs.Sums.{total, rounded}
use Rattle.lists.specs.Tab.{tab}
use Rattle.text.specs.Text.{signed, field_text}
use Rattle.sheet.specs.Keys.{comma}
use Rattle.windows.specs.Set.{Stored, start, size, weight, sample}
use Rattle.vertical.specs.Frame.{frame}
use Rattle.story_text.specs.Keys.{key_line, key_total, key_half, key_shifted, key_clip, key_final}
use Rattle.story_text.specs.Text.{product, part_text, clip_word}

-- a byte before the first of some lines
abbrev pub onto : ℕ → List (List ℕ) → List (List ℕ)
onto b [] = (b ∷ []) ∷ []
onto b (r ∷ rs) = (b ∷ r) ∷ rs

-- a text cut at its newlines
abbrev pub rows_of : List ℕ → List (List ℕ)
rows_of [] = []
rows_of (b ∷ t) = cond (eqb b 10) ([] ∷ rows_of t) (onto b (rows_of t))

-- the line of a camera line, without its newline
abbrev pub camera_row : ℕ → ℤ → ℕ → List ℕ
camera_row line w s = field_text key_line line ++ part_text w ++ field_text comma s ++ part_text (product w s)

-- camera line c is one of the n lines from `start` on
pub record Named (start n c : ℕ) : Type 0 where
  pub k : ℕ
  pub below : k < n
  pub is : c ≡ start + k

-- z is from 0 to M
pub record Inside (M : ℕ) (z : ℤ) : Type 0 where
  pub n : ℕ
  pub is : z ≡ pos n
  pub most : n ≤ M

module _ (s : Stored) (src : List ℕ) (row i j : ℕ) where
  -- line k of the window of display line i: its weight, its sample at column j, their product
  abbrev pub weight_of : ℕ → ℤ
  weight_of k = weight s.set (pos 0) i k

  abbrev pub sample_of : ℕ → ℕ
  sample_of k = sample s.set.layout (frame 0 src row) i j k

  abbrev pub product_of : ℕ → ℤ
  product_of k = product (weight_of k) (sample_of k)

  -- the pass's total and its shifted value
  abbrev pub total_of : ℤ
  total_of = total weight_of sample_of (size s.set.layout i)

  abbrev pub shifted_of : ℤ
  shifted_of = rounded s.precision weight_of sample_of (size s.set.layout i)

  -- the camera lines' lines, in line order
  abbrev pub camera_rows : List (List ℕ)
  camera_rows = tab 0 (size s.set.layout i) (λ k. camera_row (start s.set.layout i + k) (weight_of k) (sample_of k))

  -- the lines of a story with so much for its total and its final number
  abbrev pub story_rows : ℤ → ℕ → List (List ℕ)
  story_rows sum final =
      camera_rows
      ++ (key_total ++ signed sum)
      ∷ (key_half ++ signed (pos (2 ^ (s.precision - 1))))
      ∷ (key_shifted ++ signed shifted_of)
      ∷ (key_clip ++ clip_word 65535 shifted_of)
      ∷ field_text key_final final
      ∷ []
