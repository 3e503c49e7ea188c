-- Document 01's first condition for No. 8: a window with no weight other than 0. BlankLaws.antt proves that it and the second are the one test `blank`. Cited by
-- BlankLaws.antt. Assumes nothing.
use mathlib.Core.Bool.{Bool, not}
use Prim.Native.Nat.{ℕ, ◌+◌, ◌-◌}
use Rattle.lists.specs.Tab.{any}
use Rattle.plans.specs.declared.Plan.{Plan}
use Rattle.line_weights.specs.Weights.{weighs}
use Rattle.plan_windows.specs.Lines.{range_start, range_stop, middle}

module _ (p : Plan) (i : ℕ) where
  -- no line of the range has a weight other than 0
  abbrev pub no_weight : Bool
  no_weight = not (any (range_stop p i - range_start p i) (λ k. weighs p.filter (middle p i) p.recip (range_start p i + k)))
