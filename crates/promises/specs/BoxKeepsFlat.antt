-- "Box keeps flat frames."
-- Every Box request that the builder and the 32-bit normaliser accept, adapting or not, meets the premise of `FlatFrame` at every window; so a flat frame comes
-- out of the u16 pass unchanged. Nothing is asked of the request but that it was accepted. Statements only. Assumes nothing.
use Rattle.std.specs.Prelude.{◌≡◌, List, ℕ, ◌*◌, ◌≤◌, ◌<◌, ℤ, Float, length, take, Result}
use Rattle.lists.specs.Tab.{tab}
use Rattle.filters.specs.declared.FilterType.TheVariants.{Box}
use Rattle.windows.specs.Set.{layout_of, Set, set_of, Stored}
use Rattle.windows.specs.Store.{store32}
use Rattle.plans.specs.declared.Request.{Request}
use Rattle.coefficients.specs.declared.NotBuilt.{NotBuilt}
use Rattle.coefficients.specs.Answer.{number_of as numberOfBuilt, window_of}
use Rattle.coefficients.specs.Request.{built_of, weights_of, starts_of, sizes_of}
use Rattle.refusal.specs.declared.Refusal.{Refusal}
use Rattle.normalizer.specs.Answer.{number_of as numberOfNormalized}
use Rattle.normalizer.specs.Left.{answer_for, left_set}
use Rattle.vertical.specs.Passed.{number_of}
use Rattle.vertical.specs.U16.{passed_u16, written_u16}
use Rattle.promises.specs.FlatFrames.{NearOne, Flat}

-- the set that the builder leaves in three lent lists, its window size being w: the asked slots, starts and sizes, which are the lists' beginnings
abbrev pub built_set : Request → ℕ → List Float → List ℕ → List ℕ → ℕ → Set Float
built_set q lines ws ss zs w =
    set_of
    (layout_of lines w (take q.output (starts_of q (length ws) (length ss) (length zs) ss)) (take q.output (sizes_of q (length ws) (length ss) (length zs) zs)))
    (take (q.output * w) (weights_of q (length ws) (length ss) (length zs) ws))

-- a request, what is lent to the builder and to the 32-bit normaliser, and what they answer
module _ (q : Request) (lines : ℕ) (ws : List Float) (ss zs : List ℕ) (out excesses : List ℤ) where
  abbrev pub built : Result ℕ NotBuilt
  built = built_of q (length ws) (length ss) (length zs)

  abbrev pub fresh : Set Float
  fresh = built_set q lines ws ss zs (window_of built)

  abbrev pub normal : Result ℕ Refusal
  normal = answer_for store32 fresh out excesses

  -- Box was asked for, and both answered 0
  abbrev pub Accepted : Type 0
  Accepted = (q.filter ≡ Box) × (numberOfBuilt built ≡ 0) × (numberOfNormalized normal ≡ 0)

  abbrev pub stored : Stored
  stored = left_set store32 fresh out excesses

abbrev pub BoxPremise : Type 0
BoxPremise =
    (q : Request) (lines : ℕ) (ws : List Float) (ss zs : List ℕ) (out excesses : List ℤ) → Accepted q lines ws ss zs out excesses
    → (i : ℕ) → i < q.output → NearOne (stored q lines ws ss zs out excesses) i

abbrev pub BoxFlat : Type 0
BoxFlat =
    (q : Request) (lines : ℕ) (ws : List Float) (ss zs : List ℕ) (out excesses : List ℤ) → Accepted q lines ws ss zs out excesses
    → (src : List ℕ) (row first count : ℕ) (old : List ℕ) (v : ℕ)
    → number_of (passed_u16 (stored q lines ws ss zs out excesses) (length src) row first count (length old)) ≡ 0 → v ≤ 65535 → Flat v src
    → written_u16 (stored q lines ws ss zs out excesses) src row first count old ≡ tab 0 (q.output * count) (λ k. v)
