-- "The value of a sum of two frames is within 1 of the two values added."
-- Of the rounded value before the clip: at one window and column, for any weights of either sign, any samples, any number of lines, any precision from 1 on; and of the
-- lists that the u16 pass and the u8 pass take.
-- The clip is left out because it would make the claim false: two bright values add up to more than the largest sample. Statements only. Assumes nothing.
use Rattle.std.specs.Prelude.{◌≡◌, List, ℕ, ◌+◌, ◌≤◌, ◌<◌, ℤ, pos, ◌+ℤ◌, length, get_or, Result, ⊤}
use Rattle.integers.specs.Sums.{rounded, distance}
use Rattle.windows.specs.Set.{Stored, windows, size, weight, sample}
use Rattle.vertical.specs.Frame.{frame}
use Rattle.refusal.specs.declared.Refusal.{Refusal}
use Rattle.vertical.specs.Passed.{number_of}
use Rattle.vertical.specs.U16.{passed_u16}
use Rattle.vertical_u8.specs.U8.{passed_u8}

-- w are the weights of the window's n lines, a and b the samples of the two frames there, p the precision
abbrev pub SumWithinOne : Type 0
SumWithinOne =
    (w : ℕ → ℤ) (a b : ℕ → ℕ) (n p : ℕ) → 1 ≤ p
    → distance (rounded p w (λ k. a k + b k) n) (rounded p w a n +ℤ rounded p w b n) ≤ 1

-- window i of a set at column j, before the clip
abbrev pub rounded_at : Stored → (ℕ → ℕ → ℕ) → ℕ → ℕ → ℤ
rounded_at s samples i j = rounded s.precision (weight s.set (pos 0) i) (sample s.set.layout samples i j) (size s.set.layout i)

-- the list c is a and b added sample by sample
pub record Added (a b c : List ℕ) : Type 0 where
  pub first : length a ≡ length c
  pub second : length b ≡ length c
  pub each : (x : ℕ) → x < length c → get_or c x 0 ≡ get_or a x 0 + get_or b x 0

-- the same of the lists that a pass over integers takes, for any set that it accepts, at every window and column that it writes
abbrev pub ListsWithinOne : (Stored → ℕ → ℕ → ℕ → ℕ → ℕ → Result ⊤ Refusal) → Type 0
ListsWithinOne passed =
    (s : Stored) (a b c : List ℕ) (row first count room : ℕ) → number_of (passed s (length c) row first count room) ≡ 0 → Added a b c
    → (i j : ℕ) → i < windows s.set.layout → j < count
    → distance (rounded_at s (frame 0 c row) i (first + j)) (rounded_at s (frame 0 a row) i (first + j) +ℤ rounded_at s (frame 0 b row) i (first + j)) ≤ 1

abbrev pub FramesWithinOne : Type 0
FramesWithinOne = ListsWithinOne passed_u16

abbrev pub FramesWithinOneU8 : Type 0
FramesWithinOneU8 = ListsWithinOne passed_u8
