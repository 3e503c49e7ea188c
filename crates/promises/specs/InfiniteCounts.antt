-- "The f32 pass then gives the count of such samples in its answer, equal to the number of infinite samples in the output."
-- The count beside a done answer is that of the list as the call left it. Where the whole frame is not refused, the counts of ranges of columns that make up the row,
-- one after the other and of any widths, add up to the count of the whole. Where every sum stays below the least size that f32 does not hold, the count is 0.
-- Statements only. Assumes nothing.
use Rattle.std.specs.Prelude.{◌≡◌, true, List, ℕ, ◌+◌, ◌*◌, ◌<◌, Float, length}
use Rattle.std.specs.Float.{nan, binary64}
use Rattle.std.specs.Float.Ieee.{add, mul, lt, of_bits}
use Rattle.numbers.specs.Whole.{abs, narrow, is_infinite}
use Rattle.lists.specs.Tab.{turns}
use Rattle.windows.specs.Set.{Set, windows, size, weight, sample}
use Rattle.vertical.specs.Frame.{frame}
use Rattle.vertical.specs.PassedF32.{number_of, infinite_in}
use Rattle.vertical.specs.F32.{infinities, passed_f32, written_f32}
use Rattle.vertical.specs.F32Counts.{width_of, over_ranges}

-- what `value_f32` narrows (`sum_narrowed`): from +0 in line order, sample x weight added in binary64
abbrev pub sum_f32 : Set Float → (ℕ → ℕ → Float) → ℕ → ℕ → Float
sum_f32 s samples i j = turns (λ t k. add binary64 t (mul binary64 (sample s.layout samples i j k) (weight s nan i k))) (of_bits binary64 0) (size s.layout i)

-- 2^128 - 2^103, halfway from the largest f32 to 2^128: the least size that narrows to an infinity
abbrev pub least_infinite : Float
least_infinite = of_bits binary64 0x47ef_ffff_f000_0000

pub record InfiniteCounts : Type 0 where
  pub least : is_infinite (narrow least_infinite) ≡ true
  pub of_the_output : (s : Set Float) (src : List Float) (row first count : ℕ) (out : List Float)
      → number_of (passed_f32 s src row first count (length out)) ≡ 0
      → infinite_in (passed_f32 s src row first count (length out)) ≡ infinities (written_f32 s src row first count out)
  pub add_up : (s : Set Float) (src : List Float) (row : ℕ) (whole : List Float)
      → number_of (passed_f32 s src row 0 row (length whole)) ≡ 0
      → (widths : List ℕ) → width_of widths ≡ row
      → infinite_in (passed_f32 s src row 0 row (length whole)) ≡ over_ranges (λ first count. infinite_in (passed_f32 s src row first count (windows s.layout * count))) 0 widths
  pub none : (s : Set Float) (src : List Float) (row first count room : ℕ)
      → ((i j : ℕ) → i < windows s.layout → j < count → lt (abs (sum_f32 s (frame nan src row) i (first + j))) least_infinite ≡ true)
      → infinite_in (passed_f32 s src row first count room) ≡ 0
