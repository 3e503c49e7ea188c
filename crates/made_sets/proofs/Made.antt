-- A set that a request makes fits the share that it was made for: 1 to 8,192 windows, a start, a size and an excess for each, windows x window size slots, and those no
-- more than the share. Cited by the proofs of `shares` and `shared_store`. Assumes nothing.
use Rattle.std.specs.Prelude.{Result, Ok, Err}
use mathlib.Core.Path.{◌≡◌, refl, sym, ap, ◌∙◌, subst}
use mathlib.Core.Bool.{Bool, true, false, cond, ◌||◌}
use Prim.Native.Nat.{ℕ, ◌*◌, ◌≤◌, ◌<◌}
use native.Mathlib.Nat.{le_trans, le_of_eq}
use lib.Dec.{ltb}
use lib.ListN.{length}
use borrow.Author.Tests.{ltb-false}
use Rattle.lists.proofs.BoolLaws.{or_left, or_right}
use Rattle.lists.proofs.TabLaws.{length_tab}
use Rattle.refusal.specs.declared.Refusal.TheVariants.{TooFewSlots}
use Rattle.windows.specs.Set.{Stored, windows}
use Rattle.windows.specs.Store.{store32}
use Rattle.plans.specs.declared.Request.{Request}
use Rattle.plans.specs.declared.Plan.{Plan}
use Rattle.refusal.specs.declared.Refusal.{Refusal}
use Rattle.plans.specs.Plan.{plan_of}
use Rattle.plan_windows.specs.Lines.{lead, size, slots, first_blank, or_zero}
use Rattle.coefficients.specs.declared.NotBuilt.TheVariants.{Blank}
use Rattle.coefficients.specs.Request.{too_few_slots, judged}
use Rattle.normalizer.specs.Answer.{normalized_of}
use Rattle.made_sets.specs.Made.{planned_set, stored_at, Made, new, none, after_normal, refused_by, made_of}
use Rattle.made_sets.proofs.Planned.{kept_by}

-- a set in a share of n slots
pub record Fits (n : ℕ) (s : Stored) : Type 0 where
  pub some : 0 < windows s.set.layout
  pub few : windows s.set.layout ≤ 8192
  pub pairs : length s.set.layout.sizes ≡ windows s.set.layout
  pub each : length s.excesses ≡ windows s.set.layout
  pub full : length s.set.weights ≡ windows s.set.layout * s.set.layout.window_size_value
  pub room : windows s.set.layout * s.set.layout.window_size_value ≤ n

pub weights_room : {n : ℕ} {s : Stored} → Fits n s → length s.set.weights ≤ n
weights_room fit = le_trans (le_of_eq fit.full) fit.room

abbrev pub FitsMade : ℕ → Made → Type 0
FitsMade n (new s) = Fits n s
FitsMade n (none answer) = Unit {0}

pub planned_windows : (p : Plan) → windows (planned_set p).layout ≡ p.output
unfolding planned_set
planned_windows p = length_tab 0 p.output (lead p)

normal_fits : (q : Request) (p : Plan) (n : ℕ) → plan_of q ≡ Ok p → too_few_slots p n 8192 8192 ≡ false → (y : Result ℕ Refusal) → FitsMade n (after_normal (planned_set p) y)
unfolding after_normal stored_at planned_set
normal_fits q p n ready room (Err refusal) = tt
normal_fits q p n ready room (Ok precision) =
    let kept = kept_by q p ready in
    let a = ltb n (slots p) in
    let b = ltb 8192 p.output in
    let two : a || b ≡ false = or_left (a || b) b room in
    let count = length_tab 0 p.output (lead p) in
    record {
      some = subst (λ (k : ℕ). 0 < k) (sym (count ∙ kept.outputs)) kept.some;
      few = le_trans (le_of_eq count) (ltb-false 8192 p.output (or_right a b two));
      pairs = length_tab 0 p.output (size p) ∙ sym count;
      each = length_tab 0 _ _;
      full = length_tab 0 _ _;
      room = le_trans (le_of_eq (ap (λ (k : ℕ). k * p.window) count)) (ltb-false n (slots p) (or_left a b two));
    }

pub made_fits : (q : Request) (n : ℕ) → FitsMade n (made_of q n)
unfolding made_of judged or_zero
made_fits q n = go (plan_of q) refl
  where
    made : (p : Plan) → plan_of q ≡ Ok p → (t u : Bool) → too_few_slots p n 8192 8192 ≡ t
        → FitsMade n (cond t (refused_by TooFewSlots) (cond u (none (Blank (record { 0 = first_blank p }))) (after_normal (planned_set p) (normalized_of store32 (planned_set p) n 8192))))
    made p e true u h = tt
    made p e false true h = tt
    made p e false false h = normal_fits q p n e h (normalized_of store32 (planned_set p) n 8192)

    go : (x : Result Plan Refusal) → plan_of q ≡ x → FitsMade n (judged x n 8192 8192 refused_by (λ p. or_zero p (none (Blank (record { 0 = first_blank p }))) (after_normal (planned_set p) (normalized_of store32 (planned_set p) n 8192))))
    go (Err refusal) e = tt
    go (Ok p) e = made p e (too_few_slots p n 8192 8192) (ltb (first_blank p) p.output) refl
