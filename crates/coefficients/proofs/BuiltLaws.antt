-- `range_within_window`: a range never holds more lines than the window size. And a set that was built: no line is blank, and each window of the lists at
-- exit is not empty, no larger than the window size, and ends within the image side, as a pass asks. Cited by the promises. Assumes nothing.
use Rattle.std.specs.Prelude.{Result, Ok, Err}
use mathlib.Core.Path.{◌≡◌, refl, sym}
use mathlib.Core.Bool.{Bool, true, false, cond}
use mathlib.Core.List.{List}
use Prim.Native.Nat.{ℕ, ◌+◌, ◌-◌, ◌≤◌, ◌<◌}
use native.Mathlib.Nat.{lt_of_lt_of_le, le_trans, le_of_eq}
use native.Mathlib.Omega.{arith}
use lib.Dec.{ltb}
use lib.ListN.{length, get_or}
use lib.Ieee.{Float}
use borrow.Author.Tests.{ltb-false}
use Rattle.lists.specs.Tab.{front}
use Rattle.lists.proofs.FirstLaws.{first_le, first_none}
use Rattle.lists.proofs.TabLaws.{front_below}
use Rattle.numbers.proofs.Window.{range_fits_window}
use Rattle.refusal.specs.declared.Refusal.TheVariants.{TooFewSlots}
use Rattle.plans.specs.declared.Request.{Request}
use Rattle.plans.specs.declared.Plan.{Plan}
use Rattle.refusal.specs.declared.Refusal.{Refusal}
use Rattle.coefficients.specs.declared.NotBuilt.TheVariants.{Blank, Refused as BuildRefused}
use Rattle.plans.specs.Plan.{centre}
use Rattle.plan_windows.specs.Lines.{range_start, range_stop, lead, size, blank, first_blank, or_zero}
use Rattle.plans.specs.Plan.{plan_of}
use Rattle.coefficients.specs.Request.{too_few_slots, judged, built, built_of, starts_of, sizes_of}
use Rattle.plan_windows.proofs.LineLaws.{or_zero_done}
use Rattle.plans.proofs.PlanLaws.{plan_sound}
use Rattle.plan_windows.proofs.WindowLaws.{window_fits}

-- a range never holds more lines than the window size, for every request that is not refused
pub range_within_window : (q : Request) (p : Plan) → plan_of q ≡ Ok p → (i : ℕ) → i < p.output → range_stop p i - range_start p i ≤ p.window
range_within_window q p e i h =
    let ok = plan_sound q p e in
    le_trans (range_fits_window p.side (centre p i) p.radius (ok.centred i (lt_of_lt_of_le h ok.lines)) ok.reach) (le_of_eq (sym ok.wide))

-- what is known of a request that was answered with No. 0 and the window size w
pub record DoneSet (q : Request) (weights starts sizes w : ℕ) : Type 0 where
  pub plan : Plan
  pub ready : plan_of q ≡ Ok plan
  pub room : too_few_slots plan weights starts sizes ≡ false
  pub wide : w ≡ plan.window
  pub whole : first_blank plan ≡ plan.output

at_least_fact : (p : Plan) → ltb (first_blank p) p.output ≡ false → first_blank p ≡ p.output
unfolding first_blank
at_least_fact p h =
    let l = first_le (blank p) 0 p.output in
    let m : p.output ≤ first_blank p = ltb-false (first_blank p) p.output h in
    omega arith

ready_done : (q : Request) (a b c w : ℕ) (p : Plan) → plan_of q ≡ Ok p → (s u : Bool) → too_few_slots p a b c ≡ s → ltb (first_blank p) p.output ≡ u
    → cond s (Err (BuildRefused TooFewSlots)) (cond u (Err (Blank (record { 0 = first_blank p }))) (Ok p.window)) ≡ Ok w → DoneSet q a b c w
ready_done q a b c w p e true u es eu h = let z : ◌≡◌ {A = ℕ} 0 1 = cc in absurd (omega arith)
ready_done q a b c w p e false true es eu h = let z : ◌≡◌ {A = ℕ} 0 1 = cc in absurd (omega arith)
ready_done q a b c w p e false false es eu h =
    let same : w ≡ p.window = cc in
    record { plan = p; ready = e; room = es; wide = same; whole = at_least_fact p eu }

plan_done : (q : Request) (a b c w : ℕ) (x : Result Plan Refusal) → plan_of q ≡ x → judged x a b c (λ x. Err (BuildRefused x)) built ≡ Ok w → DoneSet q a b c w
unfolding judged or_zero
plan_done q a b c w (Err n) e h = let z : ◌≡◌ {A = ℕ} 0 1 = cc in absurd (omega arith)
plan_done q a b c w (Ok p) e h = ready_done q a b c w p e (too_few_slots p a b c) (ltb (first_blank p) p.output) refl refl h

pub done_set : (q : Request) (a b c w : ℕ) → built_of q a b c ≡ Ok w → DoneSet q a b c w
done_set q a b c w h = plan_done q a b c w (plan_of q) refl h

-- no line of it is blank
pub done_lines : {q : Request} {a b c w : ℕ} (d : DoneSet q a b c w) (i : ℕ) → i < d.plan.output → blank d.plan i ≡ false
unfolding first_blank
done_lines d i h =
    let all = d.whole in
    first_none (blank d.plan) 0 d.plan.output i (omega arith) (omega arith) (omega arith)

-- the windows in the lists at exit
module _ (q : Request) (ws : List Float) (ss zs : List ℕ) (w : ℕ) (done : built_of q (length ws) (length ss) (length zs) ≡ Ok w) where
  abbrev set : DoneSet q (length ws) (length ss) (length zs) w
  set = done_set q (length ws) (length ss) (length zs) w done

  start_at : (i : ℕ) → i < set.plan.output → get_or (starts_of q (length ws) (length ss) (length zs) ss) i 0 ≡ lead set.plan i
  unfolding judged
  start_at i h =
      rw (set.ready, set.room, ← or_zero_done set.plan _ (front set.plan.output (lead set.plan) ss) set.whole)
      (front_below set.plan.output (lead set.plan) ss i 0 h)

  size_at : (i : ℕ) → i < set.plan.output → get_or (sizes_of q (length ws) (length ss) (length zs) zs) i 0 ≡ size set.plan i
  unfolding judged
  size_at i h =
      rw (set.ready, set.room, ← or_zero_done set.plan _ (front set.plan.output (size set.plan) zs) set.whole)
      (front_below set.plan.output (size set.plan) zs i 0 h)

  pub record WindowOk (i : ℕ) : Type 0 where
    pub some : 0 < get_or (sizes_of q (length ws) (length ss) (length zs) zs) i 0
    pub room : get_or (sizes_of q (length ws) (length ss) (length zs) zs) i 0 ≤ w
    pub inside : get_or (starts_of q (length ws) (length ss) (length zs) ss) i 0 + get_or (sizes_of q (length ws) (length ss) (length zs) zs) i 0 ≤ set.plan.side

  pub built_window : (i : ℕ) → i < set.plan.output → WindowOk i
  built_window i h =
      let ok = plan_sound q set.plan set.ready in
      let fit = window_fits set.plan i ok (lt_of_lt_of_le h ok.lines) (done_lines set i h) in
      record {
        some = rw (size_at i h) fit.some;
        room = rw (size_at i h) (le_trans fit.room (le_of_eq (sym set.wide)));
        inside = rw (start_at i h, size_at i h) fit.inside;
      }
