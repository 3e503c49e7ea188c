-- The rule of the table CLIP8_LOOKUPS, and the part of an integer that the 16-bit clip keeps. Cited by the inner functions; the public contracts cite
-- `clipped` of integers. Definitions only. Assumes nothing.
use Rattle.std.specs.Prelude.{ℕ, ℤ, pos, negsuc, ◌-ℤ◌}
use Rattle.integers.specs.Sums.{clipped}

-- place k of the table stands for k - 640, clipped to 0 .. 255
abbrev pub entry_of : ℕ → ℕ
entry_of k = clipped 255 (pos k -ℤ pos 640)

-- an integer from 0 on; 0 for one below
unfoldable pub natural : ℤ → ℕ
natural (pos n) = n
natural (negsuc n) = 0
