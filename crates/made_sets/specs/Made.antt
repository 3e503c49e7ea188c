-- What a request makes in a share of so many slots: a set of the 32-bit store, or the answer that refuses it; a function of request and share alone. Cited by the
-- machine of `shares` and by the contract of `make`. Definitions only. Assumes nothing.
use Rattle.std.specs.Prelude.{ℕ, ◌*◌, Float, Result, Ok, Err}
use Rattle.lists.specs.Tab.{tab, grid}
use Rattle.refusal.specs.declared.Refusal.{Refusal}
use Rattle.windows.specs.Set.{layout_of, Set, set_of, Stored, stored_of, windows}
use Rattle.windows.specs.Store.{store32}
use Rattle.plans.specs.declared.Request.{Request}
use Rattle.plans.specs.declared.Plan.{Plan}
use Rattle.plans.specs.Plan.{plan_of}
use Rattle.plan_windows.specs.Lines.{lead, size, slot, slots, first_blank, or_zero}
use Rattle.coefficients.specs.declared.NotBuilt.{NotBuilt}
use Rattle.coefficients.specs.declared.NotBuilt.TheVariants.{Blank, Refused}
use Rattle.coefficients.specs.Request.{judged}
use Rattle.weight_slots.specs.Slots.{slot_at}
use Rattle.normalizer.specs.Answer.{normalized_of, excess_at}

-- the windows of a plan as a set of doubles
unfoldable pub planned_set : Plan → Set Float
planned_set p =
    set_of (layout_of p.side p.window (tab 0 p.output (lead p)) (tab 0 p.output (size p)))
    (tab 0 (slots p) (grid p.window (slot p)))

-- a set of doubles in the 32-bit store, at a precision
unfoldable pub stored_at : Set Float → ℕ → Stored
stored_at d precision =
    stored_of
    (set_of d.layout (tab 0 (windows d.layout * d.layout.window_size_value) (slot_at store32 precision d.layout.window_size_value d.weights d.layout.sizes)))
    precision
    (tab 0 (windows d.layout) (excess_at store32 precision d))

-- a new set, or why there is none
pub data Made : Type 0 where
  new : Stored → Made
  none : NotBuilt → Made

-- by the normaliser's answer
unfoldable pub after_normal : Set Float → Result ℕ Refusal → Made
after_normal d (Ok precision) = new (stored_at d precision)
after_normal d (Err refusal) = none (Refused refusal)

abbrev pub refused_by : Refusal → Made
refused_by refusal = none (Refused refusal)

-- the builder's 1 to 8, with 7 against the share, and then the normaliser's 9. The builder is lent as many slots as the share has, with 8,192 starts and sizes, and the
-- normaliser the share and 8,192 places for excesses; so 7 is of the share alone
unfoldable pub made_of : Request → ℕ → Made
made_of q share =
    judged (plan_of q) share 8192 8192 refused_by
    (λ p. or_zero p (none (Blank (record { 0 = first_blank p }))) (after_normal (planned_set p) (normalized_of store32 (planned_set p) share 8192)))

-- the answer: with a new set its window size
unfoldable pub answer_of : Made → Result ℕ NotBuilt
answer_of (new s) = Ok s.set.layout.window_size_value
answer_of (none error) = Err error
