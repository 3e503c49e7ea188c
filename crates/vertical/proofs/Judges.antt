-- From what the judges said to the tests of a pass over integers: r is a judge's word, and the pass asks `!r`. Cited by the u16 and the u8 pass. Assumes nothing.
use mathlib.Core.Path.{◌≡◌}
use mathlib.Core.Bool.{Bool, true, false, not}
use Prim.Native.Nat.{ℕ}
use Rattle.lists.specs.Ranges.{outside, bad_sides_value}
use Rattle.lists.proofs.BoolLaws.{or_left, or_right, asked_bad, asked_good}
use Rattle.windows.specs.declared.Store.{Store}
use Rattle.windows.specs.Set.{Stored, windows}
use Rattle.windows.specs.Fit.{bad_stored, unfit}
use Rattle.vertical.specs.Frame.{bad_size, bad_area}
use Rattle.vertical.proofs.Answers.{Tests}

module _ (store : Store) (s : Stored) (row : ℕ) where
  abbrev sides : Bool
  sides = bad_sides_value s.set.layout.lines (windows s.set.layout)

  abbrev size : Bool
  size = bad_size s.set.layout.lines (windows s.set.layout) row

  -- the judge of a stored set looks at the sides too, which the pass has judged before
  module _ (good : size ≡ false) {r : Bool} (e : r ≡ not (unfit s store)) where
    pub stored_bad : not r ≡ true → bad_stored s store ≡ true
    stored_bad h = rw (or_left sides (outside 1 32768 row) good) at (asked_bad (unfit s store) e h)

    pub stored_good : not r ≡ false → bad_stored s store ≡ false
    stored_good h = or_right sides (bad_stored s store) (asked_good (unfit s store) e h)

  -- all three were asked, and none refused
  module _ (samples first count room : ℕ) {r₁ r₂ r₃ : Bool} where
    pub tests :
        r₁ ≡ not size → not r₁ ≡ false → r₂ ≡ not (unfit s store) → not r₂ ≡ false
        → r₃ ≡ not (bad_area s.set.layout.lines (windows s.set.layout) samples row first count room) → not r₃ ≡ false
        → Tests store s samples row first count room
    tests e₁ h₁ e₂ h₂ e₃ h₃ =
        let good = asked_good size e₁ h₁ in record {
          size = good;
          stored = stored_good good e₂ h₂;
          area = asked_good (bad_area s.set.layout.lines (windows s.set.layout) samples row first count room) e₃ h₃;
        }
