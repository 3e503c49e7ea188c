-- One window over a frame of one column, at precision 4: what rows 10 to 12 of document 01's table speak of. Cited by the table, here and in the promises.
-- Definitions only. Assumes nothing.
use Rattle.std.specs.Prelude.{List, [], ◌∷◌, ℕ, ℤ, pos, negsuc, length}
use Rattle.windows.specs.Set.{layout_of, set_of, Stored, stored_of}
use Rattle.vertical.specs.Frame.{frame}
use Rattle.vertical.specs.U16.{value_at}

-- the window's set over so many lines; its weights are to add up to 16, so that its excess is 0
abbrev pub set4 : List ℤ → ℕ → Stored
set4 weights lines = stored_of (set_of (layout_of lines (length weights) (0 ∷ []) (length weights ∷ [])) weights) 4 (pos 0 ∷ [])

-- its value in the u16 pass
abbrev pub pass4 : List ℤ → List ℕ → ℕ
pass4 weights samples = value_at 65535 (set4 weights (length samples)) (frame 0 samples 1) 0 0

-- -4, 24, -4; and 8, 8
abbrev pub sharp : List ℤ
sharp = negsuc 3 ∷ pos 24 ∷ negsuc 3 ∷ []

abbrev pub even : List ℤ
even = pos 8 ∷ pos 8 ∷ []
