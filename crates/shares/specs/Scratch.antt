-- The three lists that are lent to the builder with a set that is put in, and what is in them afterwards. Cited by the machine. Definitions only. Assumes nothing.
use Rattle.std.specs.Prelude.{Bool, ◌||◌, List, ℕ, ltb, Float, length}
use Rattle.plans.specs.declared.Request.{Request}
use Rattle.coefficients.specs.Request.{weights_of, starts_of, sizes_of}
use Rattle.made_sets.specs.Lent.{lent_by}

pub record Scratch : Type 0 where
  pub doubles : List Float
  pub firsts : List ℕ
  pub counts : List ℕ

abbrev pub scratch_of : List Float → List ℕ → List ℕ → Scratch
scratch_of doubles firsts counts = record { doubles = doubles; firsts = firsts; counts = counts }

-- No. 10: fewer doubles than the share has slots, or fewer than 8,192 starts or sizes
abbrev pub bad_scratch : ℕ → ℕ → ℕ → ℕ → Bool
bad_scratch share doubles firsts counts = (ltb doubles share || ltb firsts 8192) || ltb counts 8192

abbrev pub too_short : ℕ → Scratch → Bool
too_short share lent = bad_scratch share (length lent.doubles) (length lent.firsts) (length lent.counts)

-- as the builder leaves them, which gets as many doubles as the share has slots, and 8,192 places of the other two; the rest unchanged
unfoldable pub built_in : Request → ℕ → Scratch → Scratch
built_in q share lent =
    scratch_of (lent_by share (weights_of q share 8192 8192) lent.doubles)
    (lent_by 8192 (starts_of q share 8192 8192) lent.firsts)
    (lent_by 8192 (sizes_of q share 8192 8192) lent.counts)
