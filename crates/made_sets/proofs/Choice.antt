-- What a request makes, by the builder's answer: refused by the builder, nothing is made and the answer is the builder's own; built, it is the normaliser's. Cited by the proofs
-- of `store_sets` and `shared_store`, and by Fitting. Assumes nothing.
use Rattle.std.specs.Prelude.{Result, Ok, Err}
use mathlib.Core.Path.{◌≡◌, ap}
use mathlib.Core.Bool.{Bool, true, false, cond}
use native.Mathlib.Omega.{arith}
use Prim.Native.Nat.{ℕ}
use lib.Dec.{ltb}
use Rattle.refusal.specs.declared.Refusal.TheVariants.{TooFewSlots}
use Rattle.windows.specs.Store.{store32}
use Rattle.plans.specs.declared.Request.{Request}
use Rattle.plans.specs.declared.Plan.{Plan}
use Rattle.refusal.specs.declared.Refusal.{Refusal}
use Rattle.plans.specs.Plan.{plan_of}
use Rattle.plan_windows.specs.Lines.{first_blank, or_zero}
use Rattle.plan_windows.proofs.LineLaws.{or_zero_done}
use Rattle.coefficients.specs.declared.NotBuilt.{NotBuilt}
use Rattle.coefficients.specs.declared.NotBuilt.TheVariants.{Blank, Refused}
use Rattle.coefficients.specs.Request.{too_few_slots, judged, built, built_of}
use Rattle.normalizer.specs.Answer.{normalized_of}
use Rattle.made_sets.specs.Made.{planned_set, Made, none, after_normal, refused_by, made_of}
use Rattle.made_sets.proofs.Planned.{planned, plan}

module _ (q : Request) (n : ℕ) where
  abbrev by_plan : Plan → Made
  by_plan p = or_zero p (none (Blank (record { 0 = first_blank p }))) (after_normal (planned_set p) (normalized_of store32 (planned_set p) n 8192))

  refused_by_fact : (x : Result Plan Refusal) (y : NotBuilt) → judged x n 8192 8192 (λ r. Err (Refused r)) built ≡ Err y → judged x n 8192 8192 refused_by by_plan ≡ none y
  unfolding judged or_zero
  refused_by_fact (Err refusal) y e = let same : Refused refusal ≡ y = cc in ap none same
  refused_by_fact (Ok p) y e = go (too_few_slots p n 8192 8192) (ltb (first_blank p) p.output) e
    where
      go : (t u : Bool) → cond t (Err (Refused TooFewSlots)) (cond u (Err (Blank (record { 0 = first_blank p }))) (Ok p.window)) ≡ Err y
          → cond t (refused_by TooFewSlots) (cond u (none (Blank (record { 0 = first_blank p }))) (after_normal (planned_set p) (normalized_of store32 (planned_set p) n 8192))) ≡ none y
      go true u h = let same : Refused TooFewSlots ≡ y = cc in ap none same
      go false true h = let same : Blank (record { 0 = first_blank p }) ≡ y = cc in ap none same
      go false false h = let z : ◌≡◌ {A = ℕ} 0 1 = cc in absurd (omega arith)

  -- a build that was refused
  pub not_built : (y : NotBuilt) → built_of q n 8192 8192 ≡ Err y → made_of q n ≡ none y
  unfolding made_of
  not_built y e = refused_by_fact (plan_of q) y e

  -- one that was not
  pub made_done : (w : ℕ) (done : built_of q n 8192 8192 ≡ Ok w) → made_of q n ≡ after_normal (planned_set (plan q n w done)) (normalized_of store32 (planned_set (plan q n w done)) n 8192)
  unfolding made_of judged
  made_done w done =
      let p = plan q n w done in
      rw ((planned q n w done).ready, (planned q n w done).room, ← or_zero_done p _ (after_normal (planned_set p) (normalized_of store32 (planned_set p) n 8192)) (planned q n w done).whole)
