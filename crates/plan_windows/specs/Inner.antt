-- What the inner functions of `plan_windows` ask and give. Cited by their contracts only; the contract of `build` does not rest on it.
-- Definitions only. Assumes nothing.
use Rattle.std.specs.Prelude.{◌≡◌, ℕ, ◌*◌, ◌^◌, ◌≤◌}
use Rattle.floats.specs.Within.{Within}
use Rattle.numbers.specs.Window.{window}
use Rattle.plans.specs.declared.Plan.{Plan}
use Rattle.plan_windows.specs.declared.Span.{Span}
use Rattle.plans.specs.Plan.{centre}
use Rattle.plan_windows.specs.Lines.{lead, size, total}

-- the window and the total of the display line i
abbrev pub span_of : Plan → ℕ → Span
span_of p i = record { window = record { start = record { 0 = lead p i }; size = size p i }; total = total p i }

-- what `Sound` of `plans` says, for one window and its row of slots
pub record RowFits (p : Plan) (i row : ℕ) : Type 0 where
  pub room : row ≡ p.window
  pub within : p.side ≤ 8192
  pub wide : p.window ≡ window p.radius
  pub narrow : p.window ≤ 32769
  pub reach : Within p.radius (2 ^ 30)
  pub centred : Within (centre p i) (2 ^ 30)

-- the lists have room
pub record ListsFit (p : Plan) (weights starts sizes : ℕ) : Type 0 where
  pub slots_there : p.output * p.window ≤ weights
  pub starts_there : p.output ≤ starts
  pub sizes_there : p.output ≤ sizes
