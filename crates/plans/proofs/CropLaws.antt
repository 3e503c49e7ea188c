-- What a crop that is inside passed, read off the crop's own rows: each axis has a side of 1 to 8,192, finite numbers, a width that is not negative, and
-- edges within the side, the far one as it is rounded. Cited by PlanLaws. Assumes nothing.
use Rattle.std.specs.Prelude.{Ok}
use mathlib.Core.Path.{◌≡◌, sym, ap, ◌∙◌, subst}
use mathlib.Core.Bool.{false, ◌||◌}
use Prim.Native.Nat.{ℕ}
use native.Mathlib.Nat.{le_trans}
use lib.Dec.{lit≤}
use lib.Ieee.{lt, le}
use Rattle.lists.specs.Ranges.{bad_sides_value}
use Rattle.lists.proofs.BoolLaws.{or_left, or_right}
use Rattle.lists.proofs.RangeLaws.{first_side, second_side}
use Rattle.crop_box.specs.declared.CropBox.{CropBox}
use Rattle.crop_box.specs.Crop.{crop_of, number_of, box_of, not_finite_value, negative_extent_value, start_outside_value, end_outside_value}
use Rattle.crop_box.specs.End.{ends_past_value}
use Rattle.crop_box.proofs.Rows.{crop_exactly}
use Rattle.crop_box.proofs.FromZero.{all_from_zero}
use Rattle.crop_box.proofs.EndLaws.{rounded_end}
use Rattle.floats.specs.Doubles.{zero64, double}
use Rattle.plans.proofs.Bounds.{Passed}

pub record Both (w h : ℕ) (b : CropBox) : Type 0 where
  pub across : Passed b.left b.width w
  pub down : Passed b.top b.height h

both : (w h : ℕ) (b : CropBox) → bad_sides_value w h ≡ false → not_finite_value b ≡ false → negative_extent_value b ≡ false → start_outside_value w h b ≡ false → end_outside_value w h b ≡ false → Both w h b
both w h b e1 e2 e3 e4 e5 =
    let from = all_from_zero w h b e2 e3 e4 in
    let wide = first_side w h e1 in
    let high = second_side w h e1 in
    let a1 = lt b.left zero64 in
    let a2 = le (double w) b.left in
    let a3 = lt b.top zero64 in
    let a4 = le (double h) b.top in
    let p1 = ends_past_value b.left b.width w in
    let p2 = ends_past_value b.top b.height h in
    record {
      across = record {
        some = wide.least;
        few = wide.most;
        near_finite = from.left.0;
        width_finite = from.width.0;
        width_up = from.width.1;
        near_up = from.left.1;
        near_in = or_right a1 a2 (or_left (a1 || a2) a3 (or_left ((a1 || a2) || a3) a4 e4));
        far_in = rounded_end b.left b.width w (le_trans wide.most (lit≤ tt)) from.left from.width (or_left p1 p2 e5);
      };
      down = record {
        some = high.least;
        few = high.most;
        near_finite = from.top.0;
        width_finite = from.height.0;
        width_up = from.height.1;
        near_up = from.top.1;
        near_in = or_right ((a1 || a2) || a3) a4 e4;
        far_in = rounded_end b.top b.height h (le_trans high.most (lit≤ tt)) from.top from.height (or_right p1 p2 e5);
      };
    }

same_box : (w h : ℕ) (b : CropBox) → number_of (crop_of w h b) ≡ 0 → box_of (crop_of w h b) ≡ b
unfolding crop_of
same_box w h b e = let all = (crop_exactly w h b 0).0 e in rw (all.0, all.1.0, all.1.1.0, all.1.1.1.0, all.1.1.1.1.0)

pub crop_passed : (w h : ℕ) (b b' : CropBox) → crop_of w h b ≡ Ok b' → Both w h b'
crop_passed w h b b' e =
    let zero : number_of (crop_of w h b) ≡ 0 = ap number_of e in
    let all = (crop_exactly w h b 0).0 zero in
    subst (Both w h) (sym (same_box w h b zero) ∙ ap box_of e) (both w h b all.0 all.1.0 all.1.1.0 all.1.1.1.0 all.1.1.1.1.0)
