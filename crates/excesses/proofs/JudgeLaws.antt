-- The judge of a stored set, test by test: what is judged before a weight is read, the count of excesses, the excesses. Cited by `stored_fits`. Assumes nothing.
use mathlib.Core.Path.{◌≡◌, refl}
use mathlib.Core.Bool.{Bool, true, false, not, ◌||◌}
use Prim.Native.Nat.{◌≤◌}
use native.Mathlib.Omega.{arith}
use lib.ListN.{length}
use borrow.Author.Tests.{ne_eqb, eq-eqb}
use Rattle.lists.specs.Ranges.{bad_sides_value}
use Rattle.lists.specs.Tab.{any}
use Rattle.lists.proofs.BoolLaws.{or_left, or_right}
use Rattle.lists.proofs.RangeLaws.{not_outside}
use Rattle.windows.specs.declared.Store.{Store}
use Rattle.windows.specs.Set.{Stored, windows}
use Rattle.windows.specs.Store.{largest_precision, bad_precision}
use Rattle.windows.specs.Fit.{Fits, InSlots, bad_set, bad_excess, bad_excesses, unfit}
use Rattle.windows.proofs.Fits.{fits, in_slots}
use Rattle.excesses.specs.Slots.{bad_shape}

grouped : (a b c d : Bool) → a || ((b || c) || d) ≡ ((a || b) || c) || d
grouped true b c d = refl
grouped false b c d = refl

or_true : (a : Bool) → a || true ≡ true
or_true true = refl
or_true false = refl

module _ (store : Store) (s : Stored) where
  abbrev shape : Bool
  shape = bad_shape store s.set.layout (length s.set.weights) s.precision

  regrouped : unfit s store ≡ shape || bad_excesses s
  regrouped = grouped (bad_sides_value s.set.layout.lines (windows s.set.layout)) (bad_set s.set.layout (length s.set.weights)) (bad_precision store s.precision) (bad_excesses s)

  pub bad_shape_fact : shape ≡ true → false ≡ not (unfit s store)
  bad_shape_fact h = rw (regrouped, h) refl

  pub other_count : (length s.excesses ≡ windows s.set.layout → ⊥) → false ≡ not (unfit s store)
  other_count h = rw (regrouped, ne_eqb (length s.excesses) (windows s.set.layout) h, or_true shape) refl

  -- nothing but the excesses is left to be judged
  pub judged : {r : Bool} → shape ≡ false → length s.excesses ≡ windows s.set.layout → r ≡ any (windows s.set.layout) (bad_excess s) → not r ≡ not (unfit s store)
  judged h e er = rw (regrouped, h, eq-eqb (length s.excesses) (windows s.set.layout) e, er) refl

  module _ (h : shape ≡ false) where
    pub set_fits : Fits s.set.layout (length s.set.weights)
    set_fits =
        let sides = bad_sides_value s.set.layout.lines (windows s.set.layout) in
        let set = bad_set s.set.layout (length s.set.weights) in
        let both = or_left (sides || set) (bad_precision store s.precision) h in
        fits s.set.layout (length s.set.weights) (or_left sides set both) (or_right sides set both)

    pub precision_small : s.precision ≤ largest_precision store
    precision_small =
        let both = bad_sides_value s.set.layout.lines (windows s.set.layout) || bad_set s.set.layout (length s.set.weights) in
        (not_outside 4 (largest_precision store) s.precision (or_right both (bad_precision store s.precision) h)).most

    pub in_their_slots : InSlots s.set.layout.window_size_value s.set.layout.sizes (length s.set.weights)
    in_their_slots = in_slots s.set.layout (length s.set.weights) set_fits (length s.set.weights) (omega arith)
