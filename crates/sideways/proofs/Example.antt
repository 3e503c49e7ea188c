-- Two rows of three pixels of two components, two windows of two pixels, precision 4: computed. Assumes nothing.
use Rattle.std.specs.Prelude.{Err}
use mathlib.Core.Path.{◌≡◌, refl}
use mathlib.Core.List.{List, [], ◌∷◌}
use Prim.Native.Nat.{ℕ}
use lib.IntN.{pos, negsuc}
use Rattle.integers.specs.Sums.{sum, shifted, clipped}
use Rattle.refusal.specs.declared.Refusal.TheVariants.{BadSide, DoesNotFit}
use Rattle.windows.specs.Set.{Stored, stored_of, set_of, layout_of, excess}
use Rattle.vertical.specs.U16.{passed_u16}
use Rattle.sideways.specs.Exchange.{exchanged}
use Rattle.sideways.specs.Sideways.{passed_sideways, written_sideways}

abbrev set : Stored
set = stored_of (set_of (layout_of 3 2 (0 ∷ 1 ∷ []) (2 ∷ 2 ∷ [])) (pos 8 ∷ pos 8 ∷ negsuc 3 ∷ pos 20 ∷ [])) 4 (pos 0 ∷ pos 0 ∷ [])

abbrev src : List ℕ
src = 1 ∷ 2 ∷ 30 ∷ 40 ∷ 500 ∷ 600 ∷ 7 ∷ 8 ∷ 90 ∷ 100 ∷ 1100 ∷ 1200 ∷ []

-- row by row, pixel by pixel; the second row alone; the exchanged frame; five components, rows of one pixel and a half, and a row past the last
pub example :
    (written_sideways set src 2 2 6 0 2 (0 ∷ 0 ∷ 0 ∷ 0 ∷ 0 ∷ 0 ∷ 0 ∷ 0 ∷ []) ≡ 16 ∷ 21 ∷ 618 ∷ 740 ∷ 49 ∷ 54 ∷ 1353 ∷ 1475 ∷ [])
    × (written_sideways set src 2 2 6 1 1 (0 ∷ 0 ∷ 0 ∷ 0 ∷ []) ≡ 49 ∷ 54 ∷ 1353 ∷ 1475 ∷ [])
    × (exchanged 0 2 2 6 src ≡ 1 ∷ 2 ∷ 7 ∷ 8 ∷ 30 ∷ 40 ∷ 90 ∷ 100 ∷ 500 ∷ 600 ∷ 1100 ∷ 1200 ∷ [])
    × (passed_sideways set 12 5 2 6 0 2 8 ≡ Err BadSide)
    × (passed_sideways set 12 4 2 6 0 2 8 ≡ Err BadSide)
    × (passed_sideways set 12 2 2 6 2 1 4 ≡ Err DoesNotFit)
unfolding written_sideways passed_sideways passed_u16 exchanged sum shifted clipped excess
example = (refl, refl, refl, refl, refl, refl)
