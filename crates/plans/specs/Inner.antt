-- What the inner functions of `plans` give, and what a plan keeps. Cited by their contracts and by `plan_windows`; the contract of `build` does not
-- rest on it. Definitions only. Assumes nothing.
use Rattle.std.specs.Prelude.{◌≡◌, ℕ, ◌^◌, ◌≤◌, ◌<◌}
use Rattle.floats.specs.Within.{Within}
use Rattle.numbers.specs.Window.{window}
use Rattle.plans.specs.declared.Plan.{Plan}
use Rattle.plans.specs.Plan.{centre}

-- what the plan of a request that was not refused keeps (`plan_sound`)
pub record Sound (p : Plan) : Type 0 where
  pub lines : p.output ≤ 8192
  pub within : p.side ≤ 8192
  pub wide : p.window ≡ window p.radius
  pub narrow : p.window ≤ 32769
  pub reach : Within p.radius (2 ^ 30)
  pub centred : (i : ℕ) → i < 8192 → Within (centre p i) (2 ^ 30)
