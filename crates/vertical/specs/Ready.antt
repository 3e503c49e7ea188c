-- What the inner functions of both passes ask of their lists, in plain numbers. Cited by their contracts only. Definitions only. Assumes nothing.
use Rattle.std.specs.Prelude.{◌≡◌, List, ℕ, ◌+◌, ◌*◌, ◌≤◌, ◌<◌, length, get_or}
use Rattle.windows.specs.Set.{layout_of}
use Rattle.windows.specs.Fit.{Fits}

-- the set fits, columns are inside the row, there is a sample of the output for each window, and each window's lines are inside the frame
pub record Ready (samples row first count : ℕ) (starts sizes : List ℕ) (window_size_value slots room : ℕ) : Type 0 where
  pub set : Fits (layout_of 8192 window_size_value starts sizes) slots
  pub narrow : row ≤ 32768
  pub fit : first + count ≤ row
  pub lines : samples ≤ 8192 * row
  pub rooms : room ≡ length starts * count
  pub inside : (i : ℕ) → i < length starts → (get_or starts i 0 + get_or sizes i 0) * row ≤ samples
