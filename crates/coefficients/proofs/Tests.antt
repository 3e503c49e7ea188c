-- The tests of the builder in the order of judging, each with its number. Rows.antt proves that the answer is what they say. Cited by Rows.antt. Assumes nothing.
use Rattle.std.specs.Prelude.{Option, Some, None}
use mathlib.Core.Bool.{Bool, false, ◌||◌}
use mathlib.Core.List.{List, [], ◌∷◌}
use Prim.Native.Nat.{ℕ}
use lib.Dec.{ltb}
use Rattle.lists.specs.Ranges.{bad_sides_value}
use Rattle.filters.specs.declared.Filter.{Filter}
use Rattle.filters.specs.Names.{picked_of, is_retired}
use Rattle.crop_box.specs.Crop.{not_finite_value, negative_extent_value, start_outside_value, end_outside_value}
use Rattle.plans.specs.declared.Edge.{Edge}
use Rattle.plans.specs.declared.Plan.{Plan}
use Rattle.plans.specs.declared.Request.{Request}
use Rattle.plan_windows.specs.Lines.{first_blank}
use Rattle.plans.specs.Plan.{edge_of, plan_for, bad_output, no_scale}
use Rattle.coefficients.specs.Request.{too_few_slots}

module _ (q : Request) (weights starts sizes : ℕ) where
  -- the crop along the axis, and the plan of the windows with a filter
  abbrev pub edge : Edge
  edge = edge_of q.axis q.width q.height q.crop

  abbrev pub plan : Filter → Plan
  plan f = plan_for f q.adapts edge q.output

  -- a test of the plan, where the name picks a filter and so there is one
  abbrev pub planned : (Plan → Bool) → Option Filter → Bool
  planned test None = false
  planned test (Some f) = test (plan f)

  -- No. 8: a window is blank
  abbrev pub some_blank : Plan → Bool
  some_blank p = ltb (first_blank p) p.output

  -- the tests in the order of judging, each with its number: the name; the three sides; the crop's four; the scale; the lists lent; a blank window
  abbrev pub rows : List (Bool × ℕ)
  rows =
      (is_retired q.filter, 16)
      ∷ (bad_output q.output || bad_sides_value q.width q.height, 1)
      ∷ (not_finite_value q.crop, 2)
      ∷ (negative_extent_value q.crop, 3)
      ∷ (start_outside_value q.width q.height q.crop, 4)
      ∷ (end_outside_value q.width q.height q.crop, 5)
      ∷ (no_scale edge q.output, 6)
      ∷ (planned (λ p. too_few_slots p weights starts sizes) (picked_of q.filter), 7)
      ∷ (planned some_blank (picked_of q.filter), 8)
      ∷ []
