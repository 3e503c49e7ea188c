-- The proof of `MadeTaken`: what is made is what the normaliser leaves in two lists of that length, which `left_fits` judges. Assumes nothing.
use Rattle.std.specs.Prelude.{Result, Ok, Err}
use mathlib.Core.Path.{◌≡◌, refl, ap, ◌∙◌, subst}
use mathlib.Core.Bool.{Bool, true, false, cond}
use mathlib.Core.List.{List}
use Prim.Native.Nat.{ℕ, ◌*◌}
use lib.Dec.{ltb}
use lib.Ieee.{Float}
use lib.IntN.{ℤ, pos}
use lib.ListN.{length, take, drop}
use lib.Seq.{take_at}
use Rattle.lists.specs.Tab.{tab, front}
use Rattle.lists.proofs.TabLaws.{length_tab}
use Rattle.refusal.specs.declared.Refusal.TheVariants.{TooFewSlots}
use Rattle.windows.specs.Set.{Set, set_of, Stored, stored_of, windows}
use Rattle.windows.specs.Store.{store32}
use Rattle.windows.specs.Fit.{unfit}
use Rattle.refusal.specs.declared.Refusal.{Refusal}
use Rattle.plans.specs.declared.Plan.{Plan}
use Rattle.plans.specs.Plan.{plan_of}
use Rattle.plan_windows.specs.Lines.{first_blank, or_zero}
use Rattle.coefficients.specs.declared.NotBuilt.TheVariants.{Blank}
use Rattle.coefficients.specs.Request.{too_few_slots, judged}
use Rattle.weight_slots.specs.Slots.{slot_at}
use Rattle.normalizer.specs.Answer.{normalized_of, written_by, written_of, excesses_by, excesses_of, precision_in, excess_at}
use Rattle.normalizer.specs.Left.{left_set}
use Rattle.normalizer.proofs.Left.{left_fits}
use Rattle.made_sets.specs.Made.{planned_set, stored_at, Made, new, none, after_normal, refused_by, made_of}
use Rattle.made_sets.specs.Taken.{MadeTaken}

take_front : (n : ℕ) (f : ℕ → ℤ) (old : List ℤ) → take n (front n f old) ≡ tab 0 n f
unfolding front
take_front n f old = take_at (tab 0 n f) (drop n old) n (length_tab 0 n f)

module _ (d : Set Float) (out excesses : List ℤ) (p : ℕ) (h : normalized_of store32 d (length out) (length excesses) ≡ Ok p) where
  left_is : left_set store32 d out excesses ≡ stored_at d p
  unfolding written_of written_by excesses_of excesses_by stored_at
  left_is =
      let n = windows d.layout in
      let m = n * d.layout.window_size_value in
      ap (λ (a : Result ℕ Refusal). stored_of (set_of d.layout (take m (written_by store32 d a out))) (precision_in a) (take n (excesses_by store32 d a excesses))) h
      ∙ ap (λ (l : List ℤ). stored_of (set_of d.layout l) p (take n (front n (excess_at store32 p d) excesses))) (take_front m (slot_at store32 p d.layout.window_size_value d.weights d.layout.sizes) out)
      ∙ ap (λ (l : List ℤ). stored_of (set_of d.layout (tab 0 m (slot_at store32 p d.layout.window_size_value d.weights d.layout.sizes))) p l) (take_front n (excess_at store32 p d) excesses)

-- lists of any two lengths
zeros : ℕ → List ℤ
zeros n = tab 0 n (λ k. pos 0)

long : (n : ℕ) → length (zeros n) ≡ n
unfolding zeros
long n = length_tab 0 n (λ k. pos 0)

stored_taken : (d : Set Float) (n m p : ℕ) → normalized_of store32 d n m ≡ Ok p → unfit (stored_at d p) store32 ≡ false
stored_taken d n m p h =
    let here : normalized_of store32 d (length (zeros n)) (length (zeros m)) ≡ Ok p = rw (long n, long m) h in
    subst (λ (s : Stored). unfit s store32 ≡ false) (left_is d (zeros n) (zeros m) p here) (left_fits store32 d (zeros n) (zeros m) p here)

Taken : Made → Type 0
Taken (new stored) = unfit stored store32 ≡ false
Taken (none answer) = Unit {0}

normal_taken : (d : Set Float) (n m : ℕ) (y : Result ℕ Refusal) → normalized_of store32 d n m ≡ y → Taken (after_normal d y)
unfolding after_normal Taken
normal_taken d n m (Ok p) e = stored_taken d n m p e
normal_taken d n m (Err refusal) e = tt

planned_taken : (n : ℕ) (x : Result Plan Refusal) → Taken (judged x n 8192 8192 refused_by (λ p. or_zero p (none (Blank (record { 0 = first_blank p }))) (after_normal (planned_set p) (normalized_of store32 (planned_set p) n 8192))))
unfolding judged or_zero Taken
planned_taken n (Err refusal) = tt
planned_taken n (Ok p) = go (too_few_slots p n 8192 8192) (ltb (first_blank p) p.output)
  where
    go : (t u : Bool) → Taken (cond t (refused_by TooFewSlots) (cond u (none (Blank (record { 0 = first_blank p }))) (after_normal (planned_set p) (normalized_of store32 (planned_set p) n 8192))))
    go true u = tt
    go false true = tt
    go false false = normal_taken (planned_set p) n 8192 (normalized_of store32 (planned_set p) n 8192) refl

pub made_taken : MadeTaken
unfolding made_of Taken
made_taken q share stored e = subst Taken e (planned_taken share (plan_of q))
