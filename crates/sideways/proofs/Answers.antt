-- What the answer "done" says of the sideways pass: whole pixels, and the tests of the vertical pass on the exchanged frame. Cited by the theorems and by the pass.
-- Assumes nothing.
use Rattle.std.specs.Prelude.{Ok}
use mathlib.Core.Path.{◌≡◌}
use mathlib.Core.Bool.{false, not}
use Prim.Native.Nat.{ℕ, ◌*◌, ◌/◌, ◌%◌}
use native.Mathlib.Nat.{div-add-mod'}
use native.Mathlib.Omega.{arith}
use lib.Dec.{eqb}
use borrow.Author.Tests.{eqb-true, not-false}
use Rattle.lists.specs.Ranges.{outside}
use Rattle.lists.proofs.BoolLaws.{ladder, or_left, or_right}
use Rattle.lists.proofs.RangeLaws.{InRange, not_outside}
use Rattle.windows.specs.Set.{Stored}
use Rattle.vertical.specs.U16.{passed_u16}
use Rattle.vertical.proofs.Answers.{refused}
use Rattle.sideways.specs.Sideways.{bad_pixels, passed_sideways}

-- one to four components, and a row of whole pixels
pub record Pixels (components row : ℕ) : Type 0 where
  pub few : InRange 1 4 components
  pub full : row / components * components ≡ row

pub pixels_fit : (components row : ℕ) → bad_pixels components row ≡ false → Pixels components row
pixels_fit components row h =
    let rest : row % components ≡ 0 = eqb-true (row % components) 0 (not-false (eqb (row % components) 0) (or_right (outside 1 4 components) (not (eqb (row % components) 0)) h)) in
    record {
      few = not_outside 1 4 components (or_left (outside 1 4 components) (not (eqb (row % components) 0)) h);
      full = omega (arith, div-add-mod' row components);
    }

-- neither test refused
pub record DoneSideways (s : Stored) (samples components rows row first count room : ℕ) : Type 0 where
  pub pixels : bad_pixels components row ≡ false
  pub vertical : passed_u16 s samples (rows * components) (first * components) (count * components) room ≡ Ok tt

module _ (s : Stored) (samples components rows row first count room : ℕ) where
  pub done_sideways : passed_sideways s samples components rows row first count room ≡ Ok tt → DoneSideways s samples components rows row first count room
  unfolding passed_sideways
  done_sideways h =
      let t = ladder (bad_pixels components row) refused h in
      record { pixels = t.0; vertical = t.1 }

  -- with whole pixels, the answer is the vertical pass's
  pub answer_of : bad_pixels components row ≡ false → passed_sideways s samples components rows row first count room ≡ passed_u16 s samples (rows * components) (first * components) (count * components) room
  unfolding passed_sideways
  answer_of h = rw h
