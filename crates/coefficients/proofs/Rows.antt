-- For the customer: No. 16, and each of No. 1 to 8, is given by the builder exactly when its test holds and none before it does, and No. 0 exactly when none holds; so
-- for every request one row applies and no other. Cited by docs/CONTRACTS.md. Assumes nothing.
use Rattle.std.specs.Prelude.{Option, Some, None}
use mathlib.Core.Path.{◌≡◌, refl}
use mathlib.Core.Bool.{Bool, true, false}
use Prim.Native.Nat.{ℕ}
use Rattle.lists.specs.Ladder.{Exactly, given, Due}
use Rattle.lists.specs.Ranges.{bad_sides_value}
use Rattle.lists.proofs.LadderLaws.{exactly_due}
use Rattle.filters.specs.declared.Filter.{Filter}
use Rattle.filters.specs.Names.{picked_of}
use Rattle.filters.proofs.NameLaws.{none_retired, picked_stays}
use Rattle.crop_box.specs.Crop.{not_finite_value, negative_extent_value, start_outside_value, end_outside_value, crop_of}
use Rattle.plans.specs.declared.Request.{Request}
use Rattle.coefficients.specs.Answer.{number_of}
use Rattle.plan_windows.specs.Lines.{or_zero}
use Rattle.plans.specs.Plan.{bad_output, no_scale, scaled, after_crop, plan_with_value, plan_of}
use Rattle.coefficients.specs.Request.{too_few_slots, judged, built_of}
use Rattle.coefficients.proofs.Tests.{edge, plan, some_blank, rows}

module _ (q : Request) (weights starts sizes : ℕ) where
  -- the answer, where the filter and each test are known
  module _ (k : Filter) (is : picked_of q.filter ≡ Some k) where
    by : (a b c d e f g h i : Bool) → bad_output q.output ≡ a → bad_sides_value q.width q.height ≡ b → not_finite_value q.crop ≡ c → negative_extent_value q.crop ≡ d → start_outside_value q.width q.height q.crop ≡ e → end_outside_value q.width q.height q.crop ≡ f → no_scale (edge q weights starts sizes) q.output ≡ g → too_few_slots (plan q weights starts sizes k) weights starts sizes ≡ h → some_blank q weights starts sizes (plan q weights starts sizes k) ≡ i → number_of (built_of q weights starts sizes) ≡ given (rows q weights starts sizes)
    unfolding plan_of plan_with_value after_crop crop_of scaled judged or_zero
    by true b c d e f g h i A B C D E F G H I = rw (picked_stays q.filter k is, is, A)
    by false true c d e f g h i A B C D E F G H I = rw (picked_stays q.filter k is, is, A, B)
    by false false true d e f g h i A B C D E F G H I = rw (picked_stays q.filter k is, is, A, B, C)
    by false false false true e f g h i A B C D E F G H I = rw (picked_stays q.filter k is, is, A, B, C, D)
    by false false false false true f g h i A B C D E F G H I = rw (picked_stays q.filter k is, is, A, B, C, D, E)
    by false false false false false true g h i A B C D E F G H I = rw (picked_stays q.filter k is, is, A, B, C, D, E, F)
    by false false false false false false true h i A B C D E F G H I = rw (picked_stays q.filter k is, is, A, B, C, D, E, F, G)
    by false false false false false false false true i A B C D E F G H I = rw (picked_stays q.filter k is, is, A, B, C, D, E, F, G, H)
    by false false false false false false false false true A B C D E F G H I = rw (picked_stays q.filter k is, is, A, B, C, D, E, F, G, H, I)
    by false false false false false false false false false A B C D E F G H I = rw (picked_stays q.filter k is, is, A, B, C, D, E, F, G, H, I)

  -- and where the name is retired
  first : picked_of q.filter ≡ None → number_of (built_of q weights starts sizes) ≡ given (rows q weights starts sizes)
  unfolding plan_of judged
  first is = rw (none_retired q.filter is, is)

  is : number_of (built_of q weights starts sizes) ≡ given (rows q weights starts sizes)
  is = go (picked_of q.filter) refl
    where
      go : (x : Option Filter) → picked_of q.filter ≡ x → number_of (built_of q weights starts sizes) ≡ given (rows q weights starts sizes)
      go None e = first e
      go (Some k) e = by k e _ _ _ _ _ _ _ _ _ refl refl refl refl refl refl refl refl refl

  pub built_exactly : (n : ℕ) → Exactly (number_of (built_of q weights starts sizes) ≡ n) (Due n (rows q weights starts sizes))
  built_exactly n = rw is (exactly_due n (rows q weights starts sizes) refl)
