-- "Box and Bilinear sets never have a negative weight."
-- Every Box or Bilinear request that the builder and a normaliser accept, adapting or not, whatever the crop, leaves a stored set that meets the first premise of `NoRinging` at every window. So for its
-- passes a frame nowhere darker than another gives an output nowhere darker. Nothing is asked of the request but that it was accepted. Statements only. Assumes nothing.
use Rattle.std.specs.Prelude.{◌≡◌, ◌⊎◌, List, ℕ, ◌<◌, ℤ, Float, length, Result, ⊤}
use Rattle.filters.specs.declared.FilterType.TheVariants.{Box, Bilinear}
use Rattle.windows.specs.declared.Store.{Store}
use Rattle.windows.specs.Set.{Stored, windows}
use Rattle.windows.specs.Store.{store16, store32}
use Rattle.plans.specs.declared.Request.{Request}
use Rattle.coefficients.specs.Answer.{number_of as numberOfBuilt}
use Rattle.normalizer.specs.Answer.{number_of as numberOfNormalized}
use Rattle.normalizer.specs.Left.{answer_for, left_set}
use Rattle.refusal.specs.declared.Refusal.{Refusal}
use Rattle.vertical.specs.Passed.{number_of}
use Rattle.vertical.specs.U16.{passed_u16, written_u16}
use Rattle.vertical_u8.specs.U8.{passed_u8, written_u8}
use Rattle.promises.specs.BoxKeepsFlat.{built, fresh}
use Rattle.ringing.specs.NoRinging.{NoneNegative, NowhereDarker}

-- a request, and what is lent to the builder and to the normaliser of a store
module _ (store : Store) (q : Request) (lines : ℕ) (ws : List Float) (ss zs : List ℕ) (out excesses : List ℤ) where
  -- Box or Bilinear was asked for, and both answered 0
  abbrev pub Accepted : Type 0
  Accepted =
      ((q.filter ≡ Box) ⊎ (q.filter ≡ Bilinear)) × (numberOfBuilt (built q lines ws ss zs out excesses) ≡ 0)
      × (numberOfNormalized (answer_for store (fresh q lines ws ss zs out excesses) out excesses) ≡ 0)

  -- what they leave
  abbrev pub stored : Stored
  stored = left_set store (fresh q lines ws ss zs out excesses) out excesses

abbrev pub NeverNegative : Type 0
NeverNegative =
    (store : Store) (q : Request) (lines : ℕ) (ws : List Float) (ss zs : List ℕ) (out excesses : List ℤ) → Accepted store q lines ws ss zs out excesses
    → (i : ℕ) → i < windows (stored store q lines ws ss zs out excesses).set.layout → NoneNegative (stored store q lines ws ss zs out excesses) i

-- of a pass over integers, with the store that it takes
abbrev pub BuiltNotDarkerOf : Store → (Stored → ℕ → ℕ → ℕ → ℕ → ℕ → Result ⊤ Refusal) → (Stored → List ℕ → ℕ → ℕ → ℕ → List ℕ → List ℕ) → Type 0
BuiltNotDarkerOf store passed written =
    (q : Request) (lines : ℕ) (ws : List Float) (ss zs : List ℕ) (out excesses : List ℤ) → Accepted store q lines ws ss zs out excesses
    → let s = stored store q lines ws ss zs out excesses in
    (a b : List ℕ) (row first count : ℕ) (old old₂ : List ℕ)
    → number_of (passed s (length a) row first count (length old)) ≡ 0 → number_of (passed s (length b) row first count (length old₂)) ≡ 0
    → NowhereDarker a b → NowhereDarker (written s a row first count old) (written s b row first count old₂)

abbrev pub BuiltNotDarker : Type 0
BuiltNotDarker = BuiltNotDarkerOf store32 passed_u16 written_u16

abbrev pub BuiltNotDarkerU8 : Type 0
BuiltNotDarkerU8 = BuiltNotDarkerOf store16 passed_u8 written_u8
