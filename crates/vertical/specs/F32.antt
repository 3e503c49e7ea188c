-- The f32 pass: its refusals in the order of their numbers, the value of a window at a column, the output, and how many samples of it are infinite. Cited by the
-- contract of `vertical_f32` and by the promises. Definitions only. Assumes nothing.
use Rattle.std.specs.Prelude.{Bool, cond, not, ◌||◌, List, [], ◌∷◌, ℕ, ◌+◌, Float, pos, length, Result, Ok, Err}
use Rattle.std.specs.Float.{nan, binary64}
use Rattle.std.specs.Float.Ieee.{add, mul, lt, of_bits, of_int}
use Rattle.lists.specs.Tab.{any, turns}
use Rattle.refusal.specs.declared.Refusal.TheVariants.{BadSide, DoesNotFit, SampleOutside}
use Rattle.floats.specs.Doubles.{is_finite}
use Rattle.numbers.specs.Whole.{abs, narrow, is_infinite}
use Rattle.windows.specs.Set.{Set, windows, size, weight, sample}
use Rattle.refusal.specs.declared.Refusal.{Refusal}
use Rattle.vertical.specs.PassedF32.{after}
use Rattle.vertical.specs.Frame.{frame, output, bad_size, bad_shape}

-- window i at column j: from +0 in line order, sample x weight added in binary64; narrowed at the end
abbrev pub value_f32 : Set Float → (ℕ → ℕ → Float) → ℕ → ℕ → Float
value_f32 s samples i j = narrow (turns (λ t k. add binary64 t (mul binary64 (sample s.layout samples i j k) (weight s nan i k))) (of_bits binary64 0) (size s.layout i))

-- how many of a list's samples are infinite
unfoldable pub infinities : List Float → ℕ
infinities [] = 0
infinities (x ∷ xs) = cond (is_infinite x) 1 0 + infinities xs

-- No. 12: a weight in use that is not finite, or above 2^64 in size
abbrev pub bad_weight : Set Float → ℕ → ℕ → Bool
bad_weight s i k = not (is_finite (weight s nan i k)) || lt (of_int binary64 (pos 18446744073709551616)) (abs (weight s nan i k))

abbrev pub bad_weights : Set Float → Bool
bad_weights s = any (windows s.layout) (λ i. any (size s.layout i) (bad_weight s i))

module _ (s : Set Float) (src : List Float) (row first count : ℕ) where
  -- No. 12: a sample in use that is not finite, on line k of window i
  abbrev pub bad_line : ℕ → ℕ → Bool
  bad_line i k = any count (λ j. not (is_finite (sample s.layout (frame nan src row) i (first + j) k)))

  abbrev pub bad_samples : Bool
  bad_samples = any (windows s.layout) (λ i. any (size s.layout i) (bad_line i))

  -- the answer, where the output has room for so many samples; beside a done one, how many samples of the output are infinite
  unfoldable pub passed_f32 : ℕ → Result ℕ Refusal
  passed_f32 room =
      cond (bad_size s.layout.lines (windows s.layout) row) (Err BadSide)
      (cond (bad_shape s.layout (length s.weights) (length src) row first count room) (Err DoesNotFit)
      (cond (bad_weights s) (Err SampleOutside)
      (cond bad_samples (Err SampleOutside)
      (Ok (infinities (output (value_f32 s (frame nan src row)) (windows s.layout) first count))))))

  unfoldable pub written_f32 : List Float → List Float
  written_f32 old = after (passed_f32 (length old)) (output (value_f32 s (frame nan src row)) (windows s.layout) first count) old
