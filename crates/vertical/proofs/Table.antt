-- Rows 10 to 12 of document 01's table, computed on the value of the u16 pass, and the f32 pass's ties and order: one window over a frame of one column.
-- Rows restated by the promises.
-- Assumes nothing.
use mathlib.Core.Path.{◌≡◌, refl}
use mathlib.Core.Bool.{false}
use mathlib.Core.List.{List, [], ◌∷◌}
use Prim.Native.Nat.{ℕ}
use lib.Ieee.{Float, nan, binary32, binary64, add, mul, round, of_bits, to_bits, sum as sum_of}
use lib.ListN.{length}
use Rattle.integers.specs.Sums.{sum, shifted, clipped}
use Rattle.numbers.specs.Whole.{narrow}
use Rattle.windows.specs.Set.{layout_of, set_of, excess}
use Rattle.windows.specs.Store.{store16, store32}
use Rattle.windows.specs.Fit.{unfit}
use Rattle.vertical.specs.Frame.{frame}
use Rattle.vertical.specs.Example.{set4, pass4, sharp, even}
use Rattle.vertical.specs.F32.{value_f32}

pub rows_10_to_12 :
    (pass4 sharp (100 ∷ 200 ∷ 100 ∷ []) ≡ 250)
    × ((pass4 sharp (65535 ∷ 0 ∷ 65535 ∷ []) ≡ 0) × (pass4 sharp (0 ∷ 65535 ∷ 0 ∷ []) ≡ 65535))
    × ((pass4 even (1 ∷ 0 ∷ []) ≡ 1) × (pass4 even (0 ∷ 1 ∷ []) ≡ 1) × (pass4 even (1 ∷ 1 ∷ []) ≡ 1))
unfolding sum shifted clipped
rows_10_to_12 = (refl, (refl, refl), (refl, refl, refl))

-- both windows make stored sets that no integer pass refuses
pub examples_fit : (unfit (set4 sharp 3) store16 ≡ false) × (unfit (set4 sharp 3) store32 ≡ false) × (unfit (set4 even 2) store16 ≡ false) × (unfit (set4 even 2) store32 ≡ false)
unfolding sum excess
examples_fit = (refl, refl, refl, refl)

-- ---- the f32 pass, as bits: ties of the narrowing to the even one (row 14, through a pass), and the order of the sum

abbrev pub pass_f32 : List Float → List Float → ℕ
pass_f32 weights src =
    to_bits binary32 (value_f32 (set_of (layout_of (length src) (length weights) (0 ∷ []) (length weights ∷ [])) weights) (frame nan src 1) 0 0)

-- the double with these bits
abbrev pattern : ℕ → Float
pattern n = of_bits binary64 n

-- 1 + 2^-24 gives 1, and 1 + 3 x 2^-24 gives 1 + 2^-22
pub ties_f32 :
    (pass_f32 (pattern 0x3ff0_0000_1000_0000 ∷ []) (pattern 0x3ff0_0000_0000_0000 ∷ []) ≡ 0x3f80_0000)
    × (pass_f32 (pattern 0x3ff0_0000_3000_0000 ∷ []) (pattern 0x3ff0_0000_0000_0000 ∷ []) ≡ 0x3f80_0002)
unfolding narrow add mul of_bits to_bits round sum_of
ties_f32 = (refl, refl)

-- 1 + 2^60 - 2^60 is 0 in line order, and would be 1 in the other
pub order_f32 :
    pass_f32
    (pattern 0x3ff0_0000_0000_0000 ∷ pattern 0x43b0_0000_0000_0000 ∷ pattern 0xc3b0_0000_0000_0000 ∷ [])
    (pattern 0x3ff0_0000_0000_0000 ∷ pattern 0x3ff0_0000_0000_0000 ∷ pattern 0x3ff0_0000_0000_0000 ∷ [])
    ≡ 0
unfolding narrow add mul of_bits to_bits round sum_of
order_f32 = refl
