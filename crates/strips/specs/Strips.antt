-- "A strip of columns resampled as a frame of its own gives what the pass over those columns of the whole frame gives."
-- A program whose lists are smaller than a frame may go by strips: it cuts the columns out of the frame, and hands the pass nothing else. Statements only. Assumes nothing.
use Rattle.std.specs.Prelude.{◌≡◌, List, ℕ, ◌≤◌, length, Result, ⊤}
use Rattle.windows.specs.Set.{Stored}
use Rattle.vertical.specs.Frame.{columns}
use Rattle.refusal.specs.declared.Refusal.{Refusal}
use Rattle.vertical.specs.Passed.{number_of}
use Rattle.vertical.specs.U16.{passed_u16, written_u16}
use Rattle.vertical_u8.specs.U8.{passed_u8, written_u8}

-- the columns of every camera line from first on, count of them: a frame with rows of count samples
abbrev pub strip : Stored → List ℕ → ℕ → ℕ → ℕ → List ℕ
strip s src row first count = columns 0 row s.set.layout.lines first count src

-- wherever the pass over a range of some columns does not refuse, the pass over the strip, whole, does not either, and writes the same
abbrev pub StripAlone : (Stored → ℕ → ℕ → ℕ → ℕ → ℕ → Result ⊤ Refusal) → (Stored → List ℕ → ℕ → ℕ → ℕ → List ℕ → List ℕ) → Type 0
StripAlone passed written =
    (s : Stored) (src : List ℕ) (row first count : ℕ) (list : List ℕ) → 1 ≤ count → number_of (passed s (length src) row first count (length list)) ≡ 0
    → (number_of (passed s (length (strip s src row first count)) count 0 count (length list)) ≡ 0)
    × (written s (strip s src row first count) count 0 count list ≡ written s src row first count list)

abbrev pub StripU16 : Type 0
StripU16 = StripAlone passed_u16 written_u16

abbrev pub StripU8 : Type 0
StripU8 = StripAlone passed_u8 written_u8
