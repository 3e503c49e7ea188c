-- "A refused call leaves what it was lent as it was."
-- For every function that is lent a list to write: refused with a number other than 8, each lent list is as it was. No. 8, which the builder alone gives, leaves 0 in
-- the asked slots, starts and sizes, and the rest as it was. Answers are spoken of by their number. Statements only. Assumes nothing.
use Rattle.std.specs.Prelude.{◌≡◌, List, ℕ, ℤ, Float, length, Ok}
use Rattle.lists.specs.Tab.{front}
use Rattle.pixel_lists.specs.Lists.{applied_to, number_of as numberOfApplied}
use Rattle.alpha.specs.Lists.{multiplied_list, divided_list}
use Rattle.alpha_u16.specs.Lists.{multiplied_list as multipliedList16, divided_list as dividedList16}
use Rattle.filters.specs.declared.FilterType.{FilterType}
use Rattle.windows.specs.declared.Store.{Store}
use Rattle.windows.specs.Set.{Set, Stored}
use Rattle.plans.specs.declared.Request.{Request}
use Rattle.plans.specs.declared.Plan.{Plan}
use Rattle.coefficients.specs.Answer.{number_of as numberOfBuilt}
use Rattle.plan_windows.specs.Lines.{slots, zero_weight, zero_line}
use Rattle.plans.specs.Plan.{plan_of}
use Rattle.coefficients.specs.Request.{built_of, weights_of, starts_of, sizes_of}
use Rattle.normalizer.specs.Answer.{normalized_of, number_of as numberOfNormalized, written_of, excesses_of}
use Rattle.vertical.specs.Passed.{number_of as numberOfPassed}
use Rattle.vertical.specs.PassedF32.{number_of as numberOfPassedF32}
use Rattle.vertical.specs.U16.{passed_u16, written_u16}
use Rattle.vertical.specs.F32.{passed_f32, written_f32}
use Rattle.vertical_u8.specs.U8.{passed_u8, written_u8}
use Rattle.sideways.specs.Sideways.{passed_sideways, written_sideways}
use Rattle.repairs.specs.Offer.{Offer}
use Rattle.repairs.specs.Answer.{accepted_of, number_of as numberOfAccepted, weights_of as weightsTaken, excesses_of as excessesTaken, offered_of, offered_number, written_of as offerIn}
use Rattle.sheet.specs.Answer.{answer_of, number_of as numberOfSheet, written_of as sheetIn}
use Rattle.book_numbers.specs.declared.Report.{Report}
use Rattle.book_text.specs.Text.{answer_of as answerOfReport, written_of as reportIn}
use Rattle.story.specs.Answer.{answer_of as answerOfStory, number_of as numberOfStory, written_of as storyIn}

-- a number other than that
abbrev pub Not : ℕ → ℕ → Type 0
Not m n = n ≡ m → ⊥

-- the builder's three lists
module _ (q : Request) (ws : List Float) (ss zs : List ℕ) where
  abbrev pub build_number : ℕ
  build_number = numberOfBuilt (built_of q (length ws) (length ss) (length zs))

  abbrev pub Kept : Type 0
  Kept =
      (weights_of q (length ws) (length ss) (length zs) ws ≡ ws)
      × (starts_of q (length ws) (length ss) (length zs) ss ≡ ss)
      × (sizes_of q (length ws) (length ss) (length zs) zs ≡ zs)

  -- the plan says how many were asked for: output side x window size slots, and as many starts and sizes as the output side
  pub record Zeroed : Type 0 where
    pub plan : Plan
    pub planned : plan_of q ≡ Ok plan
    pub weights : weights_of q (length ws) (length ss) (length zs) ws ≡ front (slots plan) zero_weight ws
    pub starts : starts_of q (length ws) (length ss) (length zs) ss ≡ front plan.output zero_line ss
    pub sizes : sizes_of q (length ws) (length ss) (length zs) zs ≡ front plan.output zero_line zs

pub record RefusedUnchanged : Type 0 where
  pub build : (q : Request) (ws : List Float) (ss zs : List ℕ) → Not 0 (build_number q ws ss zs) → Not 8 (build_number q ws ss zs) → Kept q ws ss zs
  pub build_8 : (q : Request) (ws : List Float) (ss zs : List ℕ) → build_number q ws ss zs ≡ 8 → Zeroed q ws ss zs
  pub normalize : (store : Store) (s : Set Float) (out excesses : List ℤ) → Not 0 (numberOfNormalized (normalized_of store s (length out) (length excesses))) → (written_of store s (length excesses) out ≡ out) × (excesses_of store s (length out) excesses ≡ excesses)
  pub pass_u16 : (s : Stored) (src : List ℕ) (row first count : ℕ) (out : List ℕ) → Not 0 (numberOfPassed (passed_u16 s (length src) row first count (length out))) → written_u16 s src row first count out ≡ out
  pub pass_u8 : (s : Stored) (src : List ℕ) (row first count : ℕ) (out : List ℕ) → Not 0 (numberOfPassed (passed_u8 s (length src) row first count (length out))) → written_u8 s src row first count out ≡ out
  pub pass_sideways : (s : Stored) (src : List ℕ) (components rows row first count : ℕ) (out : List ℕ) → Not 0 (numberOfPassed (passed_sideways s (length src) components rows row first count (length out))) → written_sideways s src components rows row first count out ≡ out
  pub pass_f32 : (s : Set Float) (src : List Float) (row first count : ℕ) (out : List Float) → Not 0 (numberOfPassedF32 (passed_f32 s src row first count (length out))) → written_f32 s src row first count out ≡ out
  pub multiply : (src out : List ℕ) → Not 0 (numberOfApplied (applied_to src out)) → multiplied_list src out ≡ out
  pub divide : (src out : List ℕ) → Not 0 (numberOfApplied (applied_to src out)) → divided_list src out ≡ out
  pub multiply_u16 : (src out : List ℕ) → Not 0 (numberOfApplied (applied_to src out)) → multipliedList16 src out ≡ out
  pub divide_u16 : (src out : List ℕ) → Not 0 (numberOfApplied (applied_to src out)) → dividedList16 src out ≡ out
  pub sheet : (kind : FilterType) (store : Store) (s : Stored) (out : List ℕ) → Not 0 (numberOfSheet (answer_of kind store s (length out))) → sheetIn kind store s out ≡ out
  pub accept : (store : Store) (s : Stored) (o : Offer) → Not 0 (numberOfAccepted (accepted_of store s o)) → (weightsTaken store s o ≡ s.set.weights) × (excessesTaken store s o ≡ s.excesses)
  pub offer : (store : Store) (s : Stored) (out : List ℤ) → Not 0 (offered_number (offered_of store s (length out))) → offerIn store s out ≡ out
  pub story : (s : Stored) (src : List ℕ) (row i j : ℕ) (out : List ℕ) → Not 0 (numberOfStory (answerOfStory s src row i j (length out))) → storyIn s src row i j out ≡ out
  pub report : (r : Report) (out : List ℕ) → Not 0 (numberOfSheet (answerOfReport r (length out))) → reportIn r out ≡ out
