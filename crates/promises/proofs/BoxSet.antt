-- The lists of a set that was built, slot by slot those of its plan, and their lengths; of a Box set the shares of `BoxLines`, none above 1. Cited by BoxPremise, and of any filter by the crate `ringing`.
-- Assumes nothing.
use Rattle.std.specs.Prelude.{Ok, Some}
use mathlib.Core.Path.{◌≡◌, sym, ap, ◌∙◌, subst}
use mathlib.Core.Bool.{false, ◌||◌}
use mathlib.Core.List.{List}
use Prim.Native.Nat.{ℕ, ◌+◌, ◌*◌, ◌/◌, ◌%◌, ◌≤◌, ◌<◌}
use native.Mathlib.Nat.{le_trans, le_of_eq, lt_of_lt_of_le, div-lt_iff_lt-mul}
use native.Mathlib.Omega.{arith}
use lib.Arith.{digits_lt}
use lib.Dec.{ltb}
use lib.Ieee.{Float, nan}
use lib.ListN.{length, get_or, take}
use lib.Seq.{length-take-le, get_or-take}
use borrow.Author.Tests.{ltb-false}
use Rattle.lists.specs.Tab.{front, grid}
use Rattle.lists.proofs.TabLaws.{front_below, length_front, grid_at}
use Rattle.lists.proofs.BoolLaws.{or_left, or_right}
use Rattle.floats.specs.Within.{Within}
use Rattle.filters.specs.declared.FilterType.{FilterType}
use Rattle.filters.specs.declared.FilterType.TheVariants.{Box}
use Rattle.filters.specs.declared.Filter.{Filter}
use Rattle.filters.specs.declared.Filter.TheVariants as filter
use Rattle.filters.specs.Names.{picked_of}
use Rattle.plans.specs.declared.Request.{Request}
use Rattle.plans.specs.declared.Plan.{Plan}
use Rattle.plans.specs.Inner.{Sound}
use Rattle.plan_windows.specs.Lines.{slots, lead, size, slot, blank}
use Rattle.coefficients.specs.Request.{judged, built_of, weights_of, starts_of, sizes_of}
use Rattle.plan_windows.proofs.LineLaws.{or_zero_done}
use Rattle.plans.proofs.PlanLaws.{plan_sound}
use Rattle.plan_windows.proofs.WindowLaws.{window_fits}
use Rattle.coefficients.proofs.BuiltLaws.{DoneSet, done_set, done_lines}
use Rattle.vertical.proofs.Columns.{some_column}
use Rattle.promises.proofs.Box.{weight}
use Rattle.promises.proofs.BoxPlan.{Kept, plan_kept}
use Rattle.promises.proofs.BoxLines.{lines, share, light}

-- the name Box picks Box
picked_box : (kind : FilterType) (f : Filter) → kind ≡ Box → picked_of kind ≡ Some f → f ≡ filter.Box
picked_box kind f e h = same f (rw e at h)
  where
    same : (f : Filter) → Some filter.Box ≡ Some f → f ≡ filter.Box
    same f h = cc

module _ (q : Request) (ws : List Float) (ss zs : List ℕ) (w : ℕ) (done : built_of q (length ws) (length ss) (length zs) ≡ Ok w) where
  pub set : DoneSet q (length ws) (length ss) (length zs) w
  set = done_set q (length ws) (length ss) (length zs) w done

  abbrev pub plan : Plan
  plan = set.plan

  pub kept : Kept q plan
  kept = plan_kept q plan set.ready

  sound : Sound plan
  sound = plan_sound q plan set.ready

  room : (slots plan ≤ length ws) × (plan.output ≤ length ss) × (plan.output ≤ length zs)
  room =
      let few = ltb (length ws) (slots plan) || ltb (length ss) plan.output in
      let first = or_left few (ltb (length zs) plan.output) set.room in (
        ltb-false (length ws) (slots plan) (or_left (ltb (length ws) (slots plan)) (ltb (length ss) plan.output) first),
        ltb-false (length ss) plan.output (or_right (ltb (length ws) (slots plan)) (ltb (length ss) plan.output) first),
        ltb-false (length zs) plan.output (or_right few (ltb (length zs) plan.output) set.room),
      )

  weights_are : weights_of q (length ws) (length ss) (length zs) ws ≡ front (slots plan) (grid plan.window (slot plan)) ws
  unfolding judged
  weights_are = rw (set.ready, set.room, ← or_zero_done plan _ (front (slots plan) (grid plan.window (slot plan)) ws) set.whole)

  sizes_are : sizes_of q (length ws) (length ss) (length zs) zs ≡ front plan.output (size plan) zs
  unfolding judged
  sizes_are = rw (set.ready, set.room, ← or_zero_done plan _ (front plan.output (size plan) zs) set.whole)

  starts_are : starts_of q (length ws) (length ss) (length zs) ss ≡ front plan.output (lead plan) ss
  unfolding judged
  starts_are = rw (set.ready, set.room, ← or_zero_done plan _ (front plan.output (lead plan) ss) set.whole)

  -- the asked beginnings
  abbrev pub weights : List Float
  weights = take (q.output * w) (weights_of q (length ws) (length ss) (length zs) ws)

  abbrev pub starts : List ℕ
  starts = take q.output (starts_of q (length ws) (length ss) (length zs) ss)

  abbrev pub sizes : List ℕ
  sizes = take q.output (sizes_of q (length ws) (length ss) (length zs) zs)

  asked : q.output * w ≡ slots plan
  asked = ap (λ (n : ℕ). n * w) (sym kept.output_kept) ∙ ap (λ (n : ℕ). plan.output * n) set.wide

  pub long_starts : length starts ≡ q.output
  long_starts =
      let r = room in
      let k = kept.output_kept in
      length-take-le q.output (starts_of q (length ws) (length ss) (length zs) ss)
      (rw (starts_are, length_front plan.output (lead plan) ss r.1) (omega arith))

  pub long_weights : length weights ≡ q.output * w
  long_weights =
      let r = room in
      let k = asked in
      length-take-le (q.output * w) (weights_of q (length ws) (length ss) (length zs) ws)
      (rw (weights_are, length_front (slots plan) (grid plan.window (slot plan)) ws r.0) (omega arith))

  pub weight_at : (x : ℕ) → x < q.output * w → get_or weights x nan ≡ grid plan.window (slot plan) x
  weight_at x h =
      get_or-take (q.output * w) (weights_of q (length ws) (length ss) (length zs) ws) x nan h
      ∙ ap (λ (l : List Float). get_or l x nan) weights_are
      ∙ front_below (slots plan) (grid plan.window (slot plan)) ws x nan (lt_of_lt_of_le h (le_of_eq asked))

  pub size_at : (i : ℕ) → i < q.output → get_or sizes i 0 ≡ size plan i
  size_at i h =
      get_or-take q.output (sizes_of q (length ws) (length ss) (length zs) zs) i 0 h
      ∙ ap (λ (l : List ℕ). get_or l i 0) sizes_are
      ∙ front_below plan.output (size plan) zs i 0 (lt_of_lt_of_le h (le_of_eq (sym kept.output_kept)))

  module _ (box : q.filter ≡ Box) where
    module _ (i : ℕ) (h : i < q.output) where
      filter_is : plan.filter ≡ filter.Box
      filter_is = picked_box q.filter plan.filter box kept.filter_kept

      in_plan : i < plan.output
      in_plan = lt_of_lt_of_le h (le_of_eq (sym kept.output_kept))

      low : i < 8192
      low = lt_of_lt_of_le in_plan sound.lines

      full : blank plan i ≡ false
      full = done_lines set i in_plan

      -- how many lines the window has
      pub some_lines : (0 < size plan i) × (size plan i ≤ 8192)
      some_lines = lines plan i filter_is sound low kept.recip_small full

      pub in_window : size plan i ≤ w
      in_window = let f = (window_fits plan i sound low full).room in let e = set.wide in omega arith

      -- its shares
      pub share_at : (k : ℕ) → k < size plan i → get_or weights (i * w + k) nan ≡ weight (size plan i)
      share_at k l =
          let c = in_window in
          let m : k < plan.window = lt_of_lt_of_le l (le_trans c (le_of_eq set.wide)) in
          weight_at (i * w + k) (digits_lt h (lt_of_lt_of_le l c))
          ∙ ap (λ (n : ℕ). grid plan.window (slot plan) (i * n + k)) set.wide
          ∙ grid_at plan.window (slot plan) i k m
          ∙ share plan i filter_is sound low kept.recip_small full k l

      light_at : (k : ℕ) → Within (slot plan i k) 1
      light_at k = light plan i filter_is sound low kept.recip_small full k

    -- no weight of the set is above 1
    pub none_above : (x : ℕ) → x < length weights → Within (get_or weights x nan) 1
    none_above x h =
        let l : x < q.output * w = lt_of_lt_of_le h (le_of_eq long_weights) in
        let e = set.wide in
        let some : 0 < w = some_column q.output w x l in
        let row : x / w < q.output = (div-lt_iff_lt-mul some).1 l in
        subst (λ (v : Float). Within v 1) (sym (weight_at x l))
        (subst (λ (n : ℕ). Within (slot plan (x / n) (x % n)) 1) e (light_at (x / w) row (x % w)))
