-- The answers of small sets, by computation. Assumes nothing.
use Rattle.std.specs.Prelude.{Ok, Err}
use mathlib.Core.Path.{◌≡◌, refl}
use mathlib.Core.List.{[], ◌∷◌}
use Prim.Native.Nat.{ℕ}
use lib.Ieee.{Float, of_int, div, mul, le, lt, neg, round, of_bits}
use Rattle.floats.specs.Doubles.{double}
use Rattle.numbers.specs.Whole.{whole}
use Rattle.refusal.specs.declared.Refusal.TheVariants.{TooFewSlots, DoesNotFit, WeightOutside}
use Rattle.windows.specs.Set.{Set, layout_of, set_of}
use Rattle.windows.specs.Store.{store16}
use Rattle.weight_precision.specs.Precision.{largest, scaled, precision}
use Rattle.normalizer.specs.Answer.{normalized_of}

abbrev one : Float
one = double 1

-- one window of one slot over one camera line
abbrev lone : Float → ℕ → Set Float
lone w size = set_of (layout_of 1 1 (0 ∷ []) (size ∷ [])) (w ∷ [])

-- 4000 has precision 2, which is below 4; beside a window that does not fit, No. 10 comes first, and before that No. 7 where no place is lent for the excess
pub refusals :
    (normalized_of store16 (lone one 1) 1 1 ≡ Ok 14)
    × (normalized_of store16 (lone (double 4000) 1) 1 1 ≡ Err WeightOutside)
    × (normalized_of store16 (lone (double 4000) 0) 1 1 ≡ Err DoesNotFit)
    × (normalized_of store16 (lone (double 4000) 0) 1 0 ≡ Err TooFewSlots)
unfolding normalized_of precision largest scaled whole of_int div mul le lt neg round of_bits
refusals = (refl, refl, refl, refl)
