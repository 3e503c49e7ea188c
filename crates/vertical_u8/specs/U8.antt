-- The u8 pass: its refusals in the order 1, 10, 9, and the output. The value of a window at a column is the u16 pass's, with 255 for the largest sample. Cited by the
-- contract of `vertical_u8` and by the promises. Definitions only. Assumes nothing.
use Rattle.std.specs.Prelude.{Bool, cond, List, ℕ, ◌+◌, ◌-◌, ◌*◌, ◌^◌, ltb, ℤ, pos, length, Result, Ok, Err, ⊤}
use Rattle.lists.specs.Tab.{any}
use Rattle.refusal.specs.declared.Refusal.TheVariants.{BadSide, DoesNotFit, WeightOutside}
use Rattle.windows.specs.Set.{Stored, windows, size, weight}
use Rattle.windows.specs.Store.{store16}
use Rattle.windows.specs.Fit.{bad_stored}
use Rattle.refusal.specs.declared.Refusal.{Refusal}
use Rattle.vertical.specs.Passed.{after}
use Rattle.vertical.specs.Frame.{frame, output, bad_size, bad_area}
use Rattle.vertical.specs.U16.{value_at}
use Rattle.row_u8.specs.Sizes.{sizes_total_value}

-- No. 9: n weights times the largest sample, each in its size, with half of 2^p pass 2^31 - 1
abbrev pub heavy : ℕ → (ℕ → ℤ) → ℕ → Bool
heavy p w n = ltb 2147483647 (255 * sizes_total_value w n + 2 ^ (p - 1))

-- the weights in use of some window do
abbrev pub heavy_at : Stored → ℕ → Bool
heavy_at s i = heavy s.precision (weight s.set (pos 0) i) (size s.set.layout i)

abbrev pub heavy_windows : Stored → Bool
heavy_windows s = any (windows s.set.layout) (heavy_at s)

-- the answer, for a frame of so many samples and an output with room for so many
unfoldable pub passed_u8 : Stored → ℕ → ℕ → ℕ → ℕ → ℕ → Result ⊤ Refusal
passed_u8 s samples row first count room =
    cond (bad_size s.set.layout.lines (windows s.set.layout) row) (Err BadSide)
    (cond (bad_stored s store16) (Err DoesNotFit)
    (cond (bad_area s.set.layout.lines (windows s.set.layout) samples row first count room) (Err DoesNotFit)
    (cond (heavy_windows s) (Err WeightOutside)
    (Ok tt))))

-- what `old` holds after it
unfoldable pub written_u8 : Stored → List ℕ → ℕ → ℕ → ℕ → List ℕ → List ℕ
written_u8 s src row first count old =
    after (passed_u8 s (length src) row first count (length old)) (output (value_at 255 s (frame 0 src row)) (windows s.set.layout) first count) old
