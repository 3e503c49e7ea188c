-- A set that was built is one that no test of the normaliser refuses but that of its weights: sides, lists and windows fit, by what every window of a sound plan keeps. So of
-- the normaliser's numbers a set that is made can meet 9 alone. Cited by the rows of the shared store. Assumes nothing.
use Rattle.std.specs.Prelude.{Result, Ok, Err}
use mathlib.Core.Path.{◌≡◌, refl, sym, ap, ◌∙◌}
use mathlib.Core.Bool.{Bool, true, false, cond, ◌||◌}
use Prim.Native.Nat.{ℕ, ◌+◌, ◌*◌, ◌≤◌, ◌<◌}
use native.Mathlib.Nat.{le_trans, le_of_eq, lt_of_lt_of_le, zero-add}
use native.Mathlib.Omega.{arith}
use lib.Dec.{ltb}
use lib.ListN.{length, get_or}
use borrow.Author.Tests.{le-ltb, eq-eqb}
use Rattle.lists.specs.Ranges.{bad_sides_value}
use Rattle.lists.specs.Tab.{tab, grid}
use Rattle.lists.proofs.AnyLaws.{none_any}
use Rattle.lists.proofs.TabLaws.{length_tab, get_d_tab}
use Rattle.refusal.specs.declared.Refusal.TheVariants.{WeightOutside}
use Rattle.windows.specs.Set.{windows}
use Rattle.windows.specs.Store.{store32}
use Rattle.windows.specs.Fit.{bad_window, bad_at, bad_counts, bad_set}
use Rattle.plans.specs.declared.Request.{Request}
use Rattle.plans.specs.declared.Plan.{Plan}
use Rattle.plans.proofs.PlanLaws.{plan_sound}
use Rattle.plan_windows.specs.Lines.{lead, size, slot, slots}
use Rattle.plan_windows.proofs.WindowLaws.{Fits, window_fits}
use Rattle.coefficients.specs.Answer.{number_of}
use Rattle.coefficients.specs.Request.{built_of}
use Rattle.coefficients.proofs.BuiltLaws.{done_lines}
use Rattle.weight_precision.specs.Precision.{precision}
use Rattle.refusal.specs.declared.Refusal.{Refusal}
use Rattle.normalizer.specs.Answer.{too_few_slots, bad_weights, normalized_of}
use Rattle.made_sets.specs.Made.{planned_set, Made, after_normal, made_of, answer_of}
use Rattle.made_sets.proofs.Choice.{made_done}
use Rattle.made_sets.proofs.Planned.{planned, plan, room}

neither : {a b : Bool} → a ≡ false → b ≡ false → a || b ≡ false
neither e f = rw (e, f)

in_range : (n most : ℕ) → 1 ≤ n → n ≤ most → ltb n 1 || ltb most n ≡ false
in_range n most h k = rw (le-ltb n 1 h, le-ltb most n k)

counts_fit : (w slots starts sizes : ℕ) → 1 ≤ w → w ≤ 32769 → starts ≡ sizes → slots ≡ starts * w → bad_counts w slots starts sizes ≡ false
counts_fit w slots starts sizes h k e f = rw (in_range w 32769 h k, eq-eqb starts sizes e, eq-eqb slots (starts * w) f)

window_good : (lines w start size : ℕ) → 1 ≤ size → size ≤ w → start + size ≤ lines → bad_window lines w start size ≡ false
window_good lines w start size h k e = rw (in_range size w h k, le-ltb lines (start + size) e)

at : (f : ℕ → ℕ) (n k : ℕ) → k < n → get_or (tab 0 n f) k 0 ≡ f k
at f n k l = get_d_tab 0 n f k 0 l ∙ ap f (zero-add k)

module _ (q : Request) (n w : ℕ) (done : built_of q n 8192 8192 ≡ Ok w) where
  abbrev p : Plan
  p = plan q n w done

  outputs : p.output ≡ q.output
  outputs = (room q n w done).windows_are

  window : (i : ℕ) → i < p.output → Fits p i
  window i h = let ok = plan_sound q p (planned q n w done).ready in window_fits p i ok (lt_of_lt_of_le h ok.lines) (done_lines (planned q n w done) i h)

  first : Fits p 0
  first = window 0 (omega (arith, (room q n w done).some, outputs))

  windows_are : windows (planned_set p).layout ≡ p.output
  unfolding planned_set
  windows_are = length_tab 0 p.output (lead p)

  sides_fit : bad_sides_value (planned_set p).layout.lines (windows (planned_set p).layout) ≡ false
  unfolding planned_set
  sides_fit =
      let ok = plan_sound q p (planned q n w done).ready in
      rw (windows_are, in_range p.side 8192 (omega (arith, first.some, first.inside)) ok.within, in_range p.output 8192 (omega (arith, (room q n w done).some, outputs)) ok.lines)

  room_there : too_few_slots store32 (planned_set p) n 8192 ≡ false
  unfolding planned_set
  room_there =
      let r = room q n w done in
      let few : p.output * p.window ≤ n = le_trans (le_of_eq (ap (λ (k : ℕ). k * p.window) outputs ∙ ap (λ (k : ℕ). q.output * k) (sym (planned q n w done).wide))) r.slots_there in
      rw (windows_are, le-ltb n (p.output * p.window) few, le-ltb 8192 p.output (le_trans (le_of_eq outputs) r.few))

  each_fits : (i : ℕ) → i < p.output → bad_at (planned_set p).layout i ≡ false
  unfolding planned_set
  each_fits i h = rw (at (lead p) p.output i h, at (size p) p.output i h) (window_good p.side p.window (lead p i) (size p i) (window i h).some (window i h).room (window i h).inside)

  counts_are : bad_counts (planned_set p).layout.window_size_value (length (planned_set p).weights) (windows (planned_set p).layout) (length (planned_set p).layout.sizes) ≡ false
  unfolding planned_set
  counts_are =
      let long : windows (planned_set p).layout ≡ length (planned_set p).layout.sizes = windows_are ∙ sym (length_tab 0 p.output (size p)) in
      let full : length (planned_set p).weights ≡ windows (planned_set p).layout * p.window = length_tab 0 (slots p) (grid p.window (slot p)) ∙ ap (λ (k : ℕ). k * p.window) (sym windows_are) in
      counts_fit p.window (length (planned_set p).weights) (windows (planned_set p).layout) (length (planned_set p).layout.sizes) (le_trans first.some first.room) (plan_sound q p (planned q n w done).ready).narrow long full

  set_fits : bad_set (planned_set p).layout (length (planned_set p).weights) ≡ false
  set_fits = neither counts_are (none_any (bad_at (planned_set p).layout) (windows (planned_set p).layout) (λ i h. each_fits i (lt_of_lt_of_le h (le_of_eq windows_are))))

  -- what the normaliser answers: 9, or the precision
  normal_is : normalized_of store32 (planned_set p) n 8192 ≡ cond (bad_weights store32 (planned_set p) n 8192) (Err WeightOutside) (Ok (precision store32 (planned_set p).weights))
  unfolding normalized_of
  normal_is = rw (sides_fit, room_there, set_fits)

  -- so the answer's number is 9, or 0
  number_by : (t : Bool) (k : ℕ) → number_of (answer_of (after_normal (planned_set p) (cond t (Err WeightOutside) (Ok k)))) ≡ cond t 9 0
  unfolding after_normal answer_of
  number_by true k = refl
  number_by false k = refl

  pub made_number : number_of (answer_of (made_of q n)) ≡ cond (bad_weights store32 (planned_set p) n 8192) 9 0
  made_number =
      ap (λ (m : Made). number_of (answer_of m)) (made_done q n w done)
      ∙ ap (λ (y : Result ℕ Refusal). number_of (answer_of (after_normal (planned_set p) y))) normal_is
      ∙ number_by (bad_weights store32 (planned_set p) n 8192) _
