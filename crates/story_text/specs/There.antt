-- One window at one column, as the writers of a story read it, and what they ask of the lists. Cited by their contracts only. Definitions only. Assumes nothing.
use Rattle.std.specs.Prelude.{List, ℕ, ◌+◌, ◌*◌, ◌≤◌, ◌<◌}
use Rattle.vertical.specs.Frame.{frame}

-- the samples of a column, from camera line `start` on
abbrev pub sample_from : List ℕ → ℕ → ℕ → ℕ → ℕ → ℕ
sample_from src row column start k = frame 0 src row (start + k) column

-- the window's weights stand in the slots from `from` on, its camera lines are few, and each has a sample at the column
pub record There (slots samples row column from start size : ℕ) : Type 0 where
  pub weights : from + size ≤ slots
  pub few : start + size ≤ 8192
  pub inside : (k : ℕ) → k < size → (start + k) * row + column < samples
