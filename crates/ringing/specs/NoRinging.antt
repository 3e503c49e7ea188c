-- "No ringing where no weight is negative."
-- In a window with no negative weight, a frame nowhere darker than another gives an output nowhere darker. If besides that the window's excess is 0, each output lies between the smallest
-- and the largest sample of its window and column. M is the largest sample: 65535 for u16, 255 for u8. Nothing is asked of the other windows. Statements only. Assumes nothing.
use Rattle.std.specs.Prelude.{◌≡◌, false, List, ℕ, ◌+◌, ◌≤◌, ◌<◌, min, max, pos, length, get_or, Result, ⊤}
use Rattle.lists.specs.Tab.{turns}
use Rattle.orders.specs.Negative.{some_negative_value}
use Rattle.windows.specs.Set.{Stored, windows, size, weight, sample, excess_of}
use Rattle.vertical.specs.Frame.{frame, row_of}
use Rattle.refusal.specs.declared.Refusal.{Refusal}
use Rattle.vertical.specs.Passed.{number_of}
use Rattle.vertical.specs.U16.{value_at, passed_u16, written_u16}
use Rattle.vertical_u8.specs.U8.{passed_u8, written_u8}

-- the first premise, of window i of a set: none of its weights in use is negative
abbrev pub NoneNegative : Stored → ℕ → Type 0
NoneNegative s i = some_negative_value (weight s.set (pos 0) i) (size s.set.layout i) ≡ false

-- the smallest and the largest of the samples s 0, s 1, .., s (n - 1); a window has one at least
abbrev pub smallest : (ℕ → ℕ) → ℕ → ℕ
smallest s n = turns (λ m k. min m (s k)) (s 0) n

abbrev pub largest : (ℕ → ℕ) → ℕ → ℕ
largest s n = turns (λ m k. max m (s k)) (s 0) n

-- ---- at window i and column j, of frames given by camera line and column

-- a and b are compared on the window's own lines
abbrev pub WindowNotDarker : Type 0
WindowNotDarker =
    (M : ℕ) (s : Stored) (a b : ℕ → ℕ → ℕ) (i j : ℕ) → NoneNegative s i
    → ((k : ℕ) → k < size s.set.layout i → sample s.set.layout a i j k ≤ sample s.set.layout b i j k) → value_at M s a i j ≤ value_at M s b i j

-- of samples up to M, at any precision from 1 on
abbrev pub WindowBetween : Type 0
WindowBetween =
    (M : ℕ) (s : Stored) (a : ℕ → ℕ → ℕ) (i j : ℕ) → 1 ≤ s.precision → NoneNegative s i → excess_of s i ≡ pos 0
    → ((k : ℕ) → k < size s.set.layout i → sample s.set.layout a i j k ≤ M)
    → (smallest (sample s.set.layout a i j) (size s.set.layout i) ≤ value_at M s a i j) × (value_at M s a i j ≤ largest (sample s.set.layout a i j) (size s.set.layout i))

-- ---- of the lists that a pass takes and writes

-- b is nowhere darker than a
abbrev pub NowhereDarker : List ℕ → List ℕ → Type 0
NowhereDarker a b = (x : ℕ) → x < length a → get_or a x 0 ≤ get_or b x 0

-- every sample is one of its width
abbrev pub UpTo : ℕ → List ℕ → Type 0
UpTo M src = (x : ℕ) → x < length src → get_or src x 0 ≤ M

-- of a pass over integers, with a first premise on a window
module _ (First : Stored → ℕ → Type 0) (passed : Stored → ℕ → ℕ → ℕ → ℕ → ℕ → Result ⊤ Refusal) (written : Stored → List ℕ → ℕ → ℕ → ℕ → List ℕ → List ℕ) where
  -- two frames, one nowhere darker, through one set and the same columns, where neither call is refused: so is its row of window i, whatever stood in the two outputs
  abbrev pub NotDarkerOf : Type 0
  NotDarkerOf =
      (s : Stored) (a b : List ℕ) (row first count : ℕ) (old old₂ : List ℕ)
      → number_of (passed s (length a) row first count (length old)) ≡ 0 → number_of (passed s (length b) row first count (length old₂)) ≡ 0 → NowhereDarker a b
      → (i : ℕ) → i < windows s.set.layout → First s i → NowhereDarker (row_of count i (written s a row first count old)) (row_of count i (written s b row first count old₂))

  -- the whole output, where every window meets the premise
  abbrev pub FrameNotDarkerOf : Type 0
  FrameNotDarkerOf =
      (s : Stored) (a b : List ℕ) (row first count : ℕ) (old old₂ : List ℕ)
      → number_of (passed s (length a) row first count (length old)) ≡ 0 → number_of (passed s (length b) row first count (length old₂)) ≡ 0 → NowhereDarker a b
      → ((i : ℕ) → i < windows s.set.layout → First s i) → NowhereDarker (written s a row first count old) (written s b row first count old₂)

  -- the output is a frame of rows of `count` samples: its sample of window i at the j-th column of the range
  abbrev pub BetweenOf : ℕ → Type 0
  BetweenOf M =
      (s : Stored) (src : List ℕ) (row first count : ℕ) (old : List ℕ) → number_of (passed s (length src) row first count (length old)) ≡ 0 → UpTo M src
      → (i j : ℕ) → i < windows s.set.layout → j < count → First s i → excess_of s i ≡ pos 0
      → let samples = sample s.set.layout (frame 0 src row) i (first + j) in
      let out = frame 0 (written s src row first count old) count i j in
      (smallest samples (size s.set.layout i) ≤ out) × (out ≤ largest samples (size s.set.layout i))

abbrev pub NotDarker : Type 0
NotDarker = NotDarkerOf NoneNegative passed_u16 written_u16

abbrev pub FrameNotDarker : Type 0
FrameNotDarker = FrameNotDarkerOf NoneNegative passed_u16 written_u16

abbrev pub Between : Type 0
Between = BetweenOf NoneNegative passed_u16 written_u16 65535

abbrev pub NotDarkerU8 : Type 0
NotDarkerU8 = NotDarkerOf NoneNegative passed_u8 written_u8

abbrev pub FrameNotDarkerU8 : Type 0
FrameNotDarkerU8 = FrameNotDarkerOf NoneNegative passed_u8 written_u8

abbrev pub BetweenU8 : Type 0
BetweenU8 = BetweenOf NoneNegative passed_u8 written_u8 255
