-- For the customer: each of No. 1 to 5 is given exactly when its row of document 01's table says so and no row before it does, and No. 0
-- exactly when no row does; so for every input one row applies and no other. The tests are `bad_sides_value` of `lists` and those of specs/Crop.antt.
-- Cited by the builder and by docs/CONTRACTS.md. Assumes nothing.
use Rattle.std.specs.Prelude.{Ok, Err}
use mathlib.Core.Path.{◌≡◌, refl}
use mathlib.Core.Bool.{Bool, true, false, cond}
use mathlib.Core.List.{List, [], ◌∷◌}
use Prim.Native.Nat.{ℕ}
use Rattle.lists.specs.Ladder.{Exactly, given, Due}
use Rattle.lists.specs.Ranges.{bad_sides_value}
use Rattle.lists.proofs.LadderLaws.{exactly_due}
use Rattle.refusal.specs.declared.Refusal.TheVariants.{BadSide, NotFinite, NegativeExtent, StartOutside, EndOutside}
use Rattle.crop_box.specs.Crop.{not_finite_value, negative_extent_value, start_outside_value, end_outside_value, crop_of, number_of}
use Rattle.crop_box.specs.declared.CropBox.{CropBox}

numbered :
    (a b c d e : Bool) (x : CropBox)
    → number_of (cond a (Err BadSide) (cond b (Err NotFinite) (cond c (Err NegativeExtent) (cond d (Err StartOutside) (cond e (Err EndOutside) (Ok x))))))
    ≡ cond a 1 (cond b 2 (cond c 3 (cond d 4 (cond e 5 0))))
numbered true b c d e x = refl
numbered false true c d e x = refl
numbered false false true d e x = refl
numbered false false false true e x = refl
numbered false false false false true x = refl
numbered false false false false false x = refl

module _ (w h : ℕ) (b : CropBox) where
  -- the tests in the order of judging, each with its number
  abbrev pub rows : List (Bool × ℕ)
  rows =
      (bad_sides_value w h, 1)
      ∷ (not_finite_value b, 2)
      ∷ (negative_extent_value b, 3)
      ∷ (start_outside_value w h b, 4)
      ∷ (end_outside_value w h b, 5)
      ∷ []

  is : number_of (crop_of w h b) ≡ given rows
  unfolding crop_of
  is = numbered (bad_sides_value w h) (not_finite_value b) (negative_extent_value b) (start_outside_value w h b) (end_outside_value w h b) b

  pub crop_exactly : (n : ℕ) → Exactly (number_of (crop_of w h b) ≡ n) (Due n rows)
  crop_exactly n = rw is (exactly_due n rows refl)
