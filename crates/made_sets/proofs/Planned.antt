-- What is known where the builder answered with a set: the lists that it was lent begin with the plan's own set, whatever they held before, and the set is one that no test of
-- the normaliser refuses but that of its weights. Cited by Making and Made. Assumes nothing.
use Rattle.std.specs.Prelude.{Ok}
use mathlib.Core.Path.{◌≡◌, refl, sym, ap, ◌∙◌}
use mathlib.Core.Bool.{◌||◌}
use mathlib.Core.List.{List, ◌++◌, append_assoc}
use Prim.Native.Nat.{ℕ, ◌*◌, ◌≤◌, ◌<◌}
use native.Mathlib.Nat.{le_trans, le_of_eq}
use lib.Dec.{ltb}
use lib.Ieee.{Float}
use lib.ListN.{take, drop}
use lib.Seq.{take_at}
use borrow.Author.Tests.{ltb-false}
use Rattle.lists.specs.Tab.{tab, front, grid}
use Rattle.lists.proofs.BoolLaws.{or_left, or_right}
use Rattle.lists.proofs.TabLaws.{length_tab}
use Rattle.windows.specs.Set.{layout_of, set_of}
use Rattle.plans.specs.declared.Axis.{Axis}
use Rattle.plans.specs.declared.Axis.TheVariants.{Across, Down}
use Rattle.plans.specs.declared.Request.{Request}
use Rattle.plans.specs.declared.Plan.{Plan}
use Rattle.plans.specs.Plan.{edge_of, plan_of}
use Rattle.plans.proofs.PlanLaws.{plan_by_fact}
use Rattle.plan_windows.specs.Lines.{slots, lead, size, slot}
use Rattle.plan_windows.proofs.LineLaws.{or_zero_done}
use Rattle.coefficients.specs.Request.{judged, built_of, weights_of, starts_of, sizes_of}
use Rattle.coefficients.proofs.BuiltLaws.{DoneSet, done_set}
use Rattle.made_sets.specs.Made.{planned_set}
use Rattle.made_sets.specs.Lent.{side_of, lent_by}

-- ---- what a plan keeps of its request
pub record Kept (q : Request) (p : Plan) : Type 0 where
  pub outputs : p.output ≡ q.output
  pub side_is : p.side ≡ side_of q
  pub some : 0 < q.output

side_of_edge : (a : Axis) (w h : ℕ) (b c : _) → (edge_of a w h b).side ≡ (edge_of a w h c).side
unfolding edge_of
side_of_edge Across w h b c = refl
side_of_edge Down w h b c = refl

pub kept_by : (q : Request) (p : Plan) → plan_of q ≡ Ok p → Kept q p
kept_by q p = plan_by_fact q p (Kept q) (λ f is b ok some few w. record { outputs = refl; side_is = side_of_edge q.axis q.width q.height b q.crop; some = some })

-- ---- the beginning that was written, through a lent beginning
begins : {A : Type 0} (k m n : ℕ) (f : ℕ → A) (left : List A → List A) (old : List A) → k ≡ m → ((l : List A) → left l ≡ front m f l) → take k (lent_by n left old) ≡ tab 0 m f
unfolding lent_by front
begins {A = A} k m n f left old e is =
    ap (λ (l : List A). take k (l ++ drop n old)) (is (take n old))
    ∙ ap (take k) (append_assoc (tab 0 m f) (drop m (take n old)) (drop n old))
    ∙ take_at (tab 0 m f) (drop m (take n old) ++ drop n old) k (length_tab 0 m f ∙ sym e)

set_same : {l l1 w w1 : ℕ} {ks ks1 : List Float} {ss ss1 zs zs1 : List ℕ} → l1 ≡ l → w1 ≡ w → ks1 ≡ ks → ss1 ≡ ss → zs1 ≡ zs → set_of (layout_of l1 w1 ss1 zs1) ks1 ≡ set_of (layout_of l w ss zs) ks
set_same e1 e2 e3 e4 e5 = rw (e1, e2, e3, e4, e5)

module _ (q : Request) (n w : ℕ) (done : built_of q n 8192 8192 ≡ Ok w) where
  pub planned : DoneSet q n 8192 8192 w
  planned = done_set q n 8192 8192 w done

  abbrev pub plan : Plan
  plan = planned.plan

  kept : Kept q plan
  kept = kept_by q plan planned.ready

  asked : q.output * w ≡ slots plan
  asked = ap (λ (x : ℕ). x * w) (sym kept.outputs) ∙ ap (λ (x : ℕ). plan.output * x) planned.wide

  -- the lists have room
  pub record Room : Type 0 where
    pub slots_there : q.output * w ≤ n
    pub few : q.output ≤ 8192
    pub some : 0 < q.output
    pub windows_are : plan.output ≡ q.output

  pub room : Room
  room =
      let few = ltb n (slots plan) || ltb 8192 plan.output in
      let first = or_left few (ltb 8192 plan.output) planned.room in
      record {
        slots_there = le_trans (le_of_eq asked) (ltb-false n (slots plan) (or_left (ltb n (slots plan)) (ltb 8192 plan.output) first));
        few = le_trans (le_of_eq (sym kept.outputs)) (ltb-false 8192 plan.output (or_right (ltb n (slots plan)) (ltb 8192 plan.output) first));
        some = kept.some;
        windows_are = kept.outputs;
      }

  weights_in : (old : List Float) → weights_of q n 8192 8192 old ≡ front (slots plan) (grid plan.window (slot plan)) old
  unfolding judged
  weights_in old = rw (planned.ready, planned.room, ← or_zero_done plan _ (front (slots plan) (grid plan.window (slot plan)) old) planned.whole)

  starts_in : (old : List ℕ) → starts_of q n 8192 8192 old ≡ front plan.output (lead plan) old
  unfolding judged
  starts_in old = rw (planned.ready, planned.room, ← or_zero_done plan _ (front plan.output (lead plan) old) planned.whole)

  sizes_in : (old : List ℕ) → sizes_of q n 8192 8192 old ≡ front plan.output (size plan) old
  unfolding judged
  sizes_in old = rw (planned.ready, planned.room, ← or_zero_done plan _ (front plan.output (size plan) old) planned.whole)

  pub starts_left : (fs : List ℕ) → take q.output (lent_by 8192 (starts_of q n 8192 8192) fs) ≡ tab 0 plan.output (lead plan)
  starts_left fs = begins q.output plan.output 8192 (lead plan) (starts_of q n 8192 8192) fs (sym kept.outputs) starts_in

  pub sizes_left : (cs : List ℕ) → take q.output (lent_by 8192 (sizes_of q n 8192 8192) cs) ≡ tab 0 plan.output (size plan)
  sizes_left cs = begins q.output plan.output 8192 (size plan) (sizes_of q n 8192 8192) cs (sym kept.outputs) sizes_in

  -- the set in the lists that were lent, whatever they held
  pub set_left : (ds : List Float) (fs cs : List ℕ)
      → set_of (layout_of (side_of q) w (take q.output (lent_by 8192 (starts_of q n 8192 8192) fs)) (take q.output (lent_by 8192 (sizes_of q n 8192 8192) cs))) (take (q.output * w) (lent_by n (weights_of q n 8192 8192) ds))
      ≡ planned_set plan
  unfolding planned_set
  set_left ds fs cs =
      set_same (sym kept.side_is) planned.wide
      (begins (q.output * w) (slots plan) n (grid plan.window (slot plan)) (weights_of q n 8192 8192) ds asked weights_in)
      (starts_left fs)
      (sizes_left cs)
