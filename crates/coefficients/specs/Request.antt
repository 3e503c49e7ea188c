-- What `build` answers and leaves in the lists, from the plan of a request. Cited by the contract of `build` and by the promises. Definitions only.
-- Assumes nothing.
use Rattle.std.specs.Prelude.{Bool, cond, ◌||◌, List, ℕ, ltb, Float, Result, Ok, Err}
use Rattle.refusal.specs.declared.Refusal.{Refusal}
use Rattle.refusal.specs.declared.Refusal.TheVariants.{TooFewSlots}
use Rattle.plans.specs.declared.Request.{Request}
use Rattle.plans.specs.declared.Plan.{Plan}
use Rattle.coefficients.specs.declared.NotBuilt.{NotBuilt}
use Rattle.coefficients.specs.declared.NotBuilt.TheVariants.{Blank, Refused as BuildRefused}
use Rattle.plans.specs.Plan.{plan_of}
use Rattle.plan_windows.specs.Lines.{slots, first_blank, or_zero, weights_in, starts_in, sizes_in}

-- No. 7: fewer slots, starts or sizes lent than needed
abbrev pub too_few_slots : Plan → ℕ → ℕ → ℕ → Bool
too_few_slots p weights starts sizes = (ltb weights (slots p) || ltb starts p.output) || ltb sizes p.output

-- then 7: the choice that the answer and each list make
unfoldable pub judged : {A : Type 0} → Result Plan Refusal → ℕ → ℕ → ℕ → (Refusal → A) → (Plan → A) → A
judged (Err refusal) weights starts sizes refused planned = refused refusal
judged (Ok p) weights starts sizes refused planned = cond (too_few_slots p weights starts sizes) (refused TooFewSlots) (planned p)

-- No. 8 with the first blank line, or done with the window size
abbrev pub built : Plan → Result ℕ NotBuilt
built p = or_zero p (Err (Blank (record { 0 = first_blank p }))) (Ok p.window)

-- the answer, where so many slots, starts and sizes are lent
abbrev pub built_of : Request → ℕ → ℕ → ℕ → Result ℕ NotBuilt
built_of q weights starts sizes = judged (plan_of q) weights starts sizes (λ x. Err (BuildRefused x)) built

-- a refusal leaves a list unchanged
abbrev pub kept : {A : Type 0} → A → Refusal → A
kept old refusal = old

-- the lists at exit: unchanged on a refusal, else by the plan
abbrev pub weights_of : Request → ℕ → ℕ → ℕ → List Float → List Float
weights_of q weights starts sizes old = judged (plan_of q) weights starts sizes (kept old) (λ p. weights_in p old)

-- so too the starts and the sizes
abbrev pub starts_of : Request → ℕ → ℕ → ℕ → List ℕ → List ℕ
starts_of q weights starts sizes old = judged (plan_of q) weights starts sizes (kept old) (λ p. starts_in p old)

abbrev pub sizes_of : Request → ℕ → ℕ → ℕ → List ℕ → List ℕ
sizes_of q weights starts sizes old = judged (plan_of q) weights starts sizes (kept old) (λ p. sizes_in p old)
