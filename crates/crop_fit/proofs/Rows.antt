-- For the customer: the fitting's No. 1 and 2 are given exactly when their row says so and no row before it does, and No. 0 exactly when no row does. The
-- tests are those of specs/Fit.antt. Cited by docs/CONTRACTS.md. Assumes nothing.
use Rattle.std.specs.Prelude.{Ok, Err, Option, Float}
use mathlib.Core.Path.{◌≡◌, refl}
use mathlib.Core.Bool.{Bool, true, false, cond}
use mathlib.Core.List.{List, [], ◌∷◌}
use Prim.Native.Nat.{ℕ}
use Rattle.lists.specs.Ladder.{Exactly, given, Due}
use Rattle.lists.proofs.LadderLaws.{exactly_due}
use Rattle.refusal.specs.declared.Refusal.TheVariants.{BadSide, NotFinite}
use Rattle.crop_box.specs.declared.CropBox.{CropBox}
use Rattle.crop_fit.specs.Fit.{large_sides_value, bad_centring, fitted_box, across_of, down_of, fit_of, number_of}

fit_numbered : (a b : Bool) (x : CropBox) → number_of (cond a (Err BadSide) (cond b (Err NotFinite) (Ok x))) ≡ cond a 1 (cond b 2 0)
fit_numbered true b x = refl
fit_numbered false true x = refl
fit_numbered false false x = refl

-- fitting: here No. 1 is only for sides above 8,192
module _ (sw sh dw dh : ℕ) (at : Option (Float × Float)) where
  abbrev pub fit_rows : List (Bool × ℕ)
  fit_rows =
      (large_sides_value sw sh dw dh, 1)
      ∷ (bad_centring at, 2)
      ∷ []

  fit_is : number_of (fit_of sw sh dw dh at) ≡ given fit_rows
  unfolding fit_of
  fit_is = fit_numbered (large_sides_value sw sh dw dh) (bad_centring at) (fitted_box sw sh dw dh (across_of at) (down_of at))

  pub fit_exactly : (n : ℕ) → Exactly (number_of (fit_of sw sh dw dh at) ≡ n) (Due n fit_rows)
  fit_exactly n = rw fit_is (exactly_due n fit_rows refl)
