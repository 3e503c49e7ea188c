-- The u16 pass: its refusals in the order of their numbers, the value of a window at a column, and the output. Cited by the contract of `vertical_u16` and by
-- the promises. The value is over the largest sample M and a frame by line and column. Definitions only. Assumes nothing.
use Rattle.std.specs.Prelude.{Bool, cond, List, ℕ, ◌*◌, ◌^◌, ltb, pos, length, Result, Ok, Err, ⊤}
use Rattle.refusal.specs.declared.Refusal.TheVariants.{BadSide, DoesNotFit}
use Rattle.integers.specs.Sums.{value}
use Rattle.windows.specs.Set.{Stored, windows, size, weight, sample, distance_of}
use Rattle.windows.specs.Store.{store32}
use Rattle.windows.specs.Fit.{bad_stored}
use Rattle.refusal.specs.declared.Refusal.{Refusal}
use Rattle.vertical.specs.Passed.{after}
use Rattle.vertical.specs.Frame.{frame, output, bad_size, bad_area}

-- window i at column j: the sum of weight x sample plus 2^(p-1), divided by 2^p rounding down, and clipped to 0 .. M
abbrev pub value_at : ℕ → Stored → (ℕ → ℕ → ℕ) → ℕ → ℕ → ℕ
value_at M s samples i j = value M s.precision (weight s.set (pos 0) i) (sample s.set.layout samples i j) (size s.set.layout i)

-- the customer's premise for flat frames, of window i and samples up to M: 2 M times the distance of the weights' total from 2^P is under 2^P
abbrev pub keeps_flat : ℕ → Stored → ℕ → Bool
keeps_flat M s i = ltb (2 * M * distance_of s i) (2 ^ s.precision)

-- the answer, for a frame of so many samples and an output with room for so many
unfoldable pub passed_u16 : Stored → ℕ → ℕ → ℕ → ℕ → ℕ → Result ⊤ Refusal
passed_u16 s samples row first count room =
    cond (bad_size s.set.layout.lines (windows s.set.layout) row) (Err BadSide)
    (cond (bad_stored s store32) (Err DoesNotFit)
    (cond (bad_area s.set.layout.lines (windows s.set.layout) samples row first count room) (Err DoesNotFit)
    (Ok tt)))

-- what `old` holds after it
unfoldable pub written_u16 : Stored → List ℕ → ℕ → ℕ → ℕ → List ℕ → List ℕ
written_u16 s src row first count old =
    after (passed_u16 s (length src) row first count (length old)) (output (value_at 65535 s (frame 0 src row)) (windows s.set.layout) first count) old
