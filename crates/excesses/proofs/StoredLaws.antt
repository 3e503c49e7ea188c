-- What the judge of a stored set leaves true, in plain numbers: its layout fits, its precision is its store's, its excesses are its windows'. Cited by the sheet writer and the
-- readers. Assumes nothing.
use mathlib.Core.Path.{◌≡◌, sym, ap, ◌∙◌}
use mathlib.Core.Bool.{Bool, false, ◌||◌}
use Prim.Native.Nat.{ℕ}
use native.Mathlib.Nat.{zero-add}
use lib.IntN.{pos}
use lib.ListN.{length, get_or}
use Rattle.lists.specs.Ranges.{bad_sides_value}
use Rattle.lists.specs.Tab.{tab}
use Rattle.lists.proofs.BoolLaws.{or_left, or_right}
use Rattle.lists.proofs.RangeLaws.{InRange, not_outside}
use Rattle.lists.proofs.TabLaws.{tab_ext, tab_get_d}
use Rattle.windows.specs.declared.Store.{Store}
use Rattle.windows.specs.Set.{Stored, windows, excess_of}
use Rattle.windows.specs.Store.{largest_precision, bad_precision}
use Rattle.windows.specs.Fit.{Fits, bad_set, bad_excesses, bad_stored}
use Rattle.windows.proofs.Fits.{fits}
use Rattle.excesses.proofs.RightLaws.{right_count, right_excess, judged_excesses}

module _ (s : Stored) (store : Store) (h : bad_stored s store ≡ false) where
  abbrev shape : Bool
  shape = bad_set s.set.layout (length s.set.weights) || bad_precision store s.precision

  first : shape ≡ false
  first = or_left shape (bad_excesses s) h

  pub stored_fits : bad_sides_value s.set.layout.lines (windows s.set.layout) ≡ false → Fits s.set.layout (length s.set.weights)
  stored_fits sides = fits s.set.layout (length s.set.weights) sides (or_left (bad_set s.set.layout (length s.set.weights)) (bad_precision store s.precision) first)

  pub stored_precise : InRange 4 (largest_precision store) s.precision
  stored_precise = not_outside 4 (largest_precision store) s.precision (or_right (bad_set s.set.layout (length s.set.weights)) (bad_precision store s.precision) first)

  pub excess_count : length s.excesses ≡ windows s.set.layout
  excess_count = right_count s (judged_excesses s store h)

  pub excesses_right : s.excesses ≡ tab 0 (windows s.set.layout) (excess_of s)
  excesses_right =
      sym (tab_get_d s.excesses (pos 0)) ∙ ap (λ (n : ℕ). tab 0 n (λ i. get_or s.excesses i (pos 0))) excess_count
      ∙ tab_ext 0 (windows s.set.layout) (λ i. get_or s.excesses i (pos 0)) (excess_of s) (λ i l. rw zero-add (sym (right_excess s (judged_excesses s store h) i l)))
