-- The rule at single inputs, by computation: document 01's sharp window on bytes, both clips, and No. 9 of 257 weights of -32768, which pass at precision 15 and not at
-- 16. Assumes nothing.
use mathlib.Core.Path.{◌≡◌, refl}
use mathlib.Core.Bool.{true, false}
use mathlib.Core.List.{List, [], ◌∷◌}
use Prim.Native.Nat.{ℕ}
use lib.IntN.{ℤ, negsuc}
use lib.ListN.{length}
use Rattle.integers.specs.Sums.{sum, shifted, clipped}
use Rattle.vertical.specs.Frame.{frame}
use Rattle.vertical.specs.Example.{set4, sharp}
use Rattle.vertical.specs.U16.{value_at}
use Rattle.row_u8.specs.Sizes.{sizes_total_value}
use Rattle.vertical_u8.specs.U8.{heavy}

abbrev pass4 : List ℤ → List ℕ → ℕ
pass4 weights samples = value_at 255 (set4 weights (length samples)) (frame 0 samples 1) 0 0

pub sharp_bytes : (pass4 sharp (100 ∷ 200 ∷ 100 ∷ []) ≡ 250) × (pass4 sharp (255 ∷ 0 ∷ 255 ∷ []) ≡ 0) × (pass4 sharp (0 ∷ 255 ∷ 0 ∷ []) ≡ 255)
unfolding sum shifted clipped
sharp_bytes = (refl, refl, refl)

-- -32768, 257 times: 255 x 257 x 32768 is 2^31 - 32768, so a half of 2^14 has room and one of 2^15 has not
pub heavy_257 : (heavy 15 (λ k. negsuc 32767) 257 ≡ false) × (heavy 16 (λ k. negsuc 32767) 257 ≡ true)
unfolding sizes_total_value
heavy_257 = (refl, refl)
