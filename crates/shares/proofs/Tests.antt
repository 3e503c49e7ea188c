-- The tests of a restart, of a set put in and of a pass in the order of judging, each with its number. Rows.antt proves that the answers are what they say. Cited by
-- Rows.antt. Assumes nothing.
use Rattle.std.specs.Prelude.{Option, Some, None}
use mathlib.Core.Bool.{Bool, true, false, ◌||◌}
use mathlib.Core.List.{List, [], ◌∷◌}
use Prim.Native.Nat.{ℕ, ◌+◌}
use lib.Dec.{ltb}
use lib.ListN.{length}
use Rattle.lists.specs.Ranges.{bad_sides_value}
use Rattle.filters.specs.declared.Filter.{Filter}
use Rattle.filters.specs.Names.{picked_of, is_retired}
use Rattle.crop_box.specs.Crop.{not_finite_value, negative_extent_value, start_outside_value, end_outside_value}
use Rattle.windows.specs.Set.{windows}
use Rattle.windows.specs.Store.{store32}
use Rattle.windows.specs.Fit.{bad_stored}
use Rattle.plans.specs.declared.Edge.{Edge}
use Rattle.plans.specs.declared.Plan.{Plan}
use Rattle.plans.specs.declared.Request.{Request}
use Rattle.plans.specs.Plan.{edge_of, plan_for, bad_output, no_scale}
use Rattle.plan_windows.specs.Lines.{first_blank}
use Rattle.coefficients.specs.Request.{too_few_slots}
use Rattle.normalizer.specs.Answer.{bad_weights}
use Rattle.made_sets.specs.Made.{planned_set}
use Rattle.vertical.specs.Frame.{bad_size, bad_area}
use Rattle.shares.specs.Store.{Store, bad_lists_value, Held, nothing, holding, View}
use Rattle.shares.specs.Scratch.{Scratch, too_short}

-- ---- a restart
module _ (s : Store) (first second : ℕ) where
  abbrev pub rows_restart : List (Bool × ℕ)
  rows_restart = (bad_lists_value s, 10) ∷ (ltb (length s.slots) (first + second), 15) ∷ []

-- ---- a set put in
module _ (v : View) (q : Request) where
  -- the crop along the axis, and the plan of the windows, where the name picks a filter
  abbrev pub edge : Edge
  edge = edge_of q.axis q.width q.height q.crop

  abbrev pub asked : Filter → Plan
  asked f = plan_for f q.adapts edge q.output

  -- a test of that plan
  abbrev pub of_plan : (Plan → Bool) → Option Filter → Bool
  of_plan test None = false
  of_plan test (Some f) = test (asked f)

  abbrev pub few_slots : Plan → Bool
  few_slots p = too_few_slots p v.room 8192 8192

  abbrev pub some_blank : Plan → Bool
  some_blank p = ltb (first_blank p) p.output

  abbrev pub outside : Plan → Bool
  outside p = bad_weights store32 (planned_set p) v.room 8192

  -- the name; the client, the lists and what is lent; then the builder's, with 7 against the share; then the weights
  abbrev pub rows_put : Scratch → List (Bool × ℕ)
  rows_put lent =
      (is_retired q.filter, 16)
      ∷ (v.shut || too_short v.room lent, 10)
      ∷ (bad_output q.output || bad_sides_value q.width q.height, 1)
      ∷ (not_finite_value q.crop, 2)
      ∷ (negative_extent_value q.crop, 3)
      ∷ (start_outside_value q.width q.height q.crop, 4)
      ∷ (end_outside_value q.width q.height q.crop, 5)
      ∷ (no_scale edge q.output, 6)
      ∷ (of_plan few_slots (picked_of q.filter), 7)
      ∷ (of_plan some_blank (picked_of q.filter), 8)
      ∷ (of_plan outside (picked_of q.filter), 9)
      ∷ []

-- ---- a pass: 10 of the client comes before 1, so each of the two is said whole
abbrev pub bad_size_of : Held → ℕ → Bool
bad_size_of nothing row = false
bad_size_of (holding s) row = bad_size s.set.layout.lines (windows s.set.layout) row

abbrev pub misfits : Held → ℕ → ℕ → ℕ → ℕ → ℕ → Bool
misfits nothing samples row first count room = true
misfits (holding s) samples row first count room = bad_stored s store32 || bad_area s.set.layout.lines (windows s.set.layout) samples row first count room

module _ (has : Held) (samples row first count room : ℕ) where
  abbrev pub rows_pass : List (Bool × ℕ)
  rows_pass = (bad_size_of has row, 1) ∷ (misfits has samples row first count room, 10) ∷ []
