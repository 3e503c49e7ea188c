-- For the customer: each of No. 1, 10 and 9 is given exactly when its test holds and none before it does, and No. 0 exactly when none holds; 10 comes before 9, since
-- windows must fit before they are summed. Cited by docs/CONTRACTS.md. Assumes nothing.
use Rattle.std.specs.Prelude.{Ok, Err}
use mathlib.Core.Path.{◌≡◌, refl}
use mathlib.Core.Bool.{Bool, true, false, cond, ◌||◌}
use mathlib.Core.List.{List, [], ◌∷◌}
use Prim.Native.Nat.{ℕ}
use Rattle.lists.specs.Ladder.{Exactly, given, Due}
use Rattle.lists.proofs.LadderLaws.{exactly_due}
use Rattle.refusal.specs.declared.Refusal.TheVariants.{BadSide, DoesNotFit, WeightOutside}
use Rattle.windows.specs.Set.{Stored, windows}
use Rattle.windows.specs.Store.{store16}
use Rattle.windows.specs.Fit.{bad_stored}
use Rattle.vertical.specs.Passed.{number_of}
use Rattle.vertical.specs.Frame.{bad_size, bad_area}
use Rattle.vertical_u8.specs.U8.{heavy_windows, passed_u8}

numbered : (a b c d : Bool) → number_of (cond a (Err BadSide) (cond b (Err DoesNotFit) (cond c (Err DoesNotFit) (cond d (Err WeightOutside) (Ok tt))))) ≡ cond a 1 (cond (b || c) 10 (cond d 9 0))
numbered true b c d = refl
numbered false true c d = refl
numbered false false true d = refl
numbered false false false true = refl
numbered false false false false = refl

module _ (s : Stored) (samples row first count room : ℕ) where
  -- the tests in the order of judging, each with its number: sides and row; the stored set, frame and columns; weights
  abbrev pub rows_u8 : List (Bool × ℕ)
  rows_u8 =
      (bad_size s.set.layout.lines (windows s.set.layout) row, 1)
      ∷ (bad_stored s store16 || bad_area s.set.layout.lines (windows s.set.layout) samples row first count room, 10)
      ∷ (heavy_windows s, 9)
      ∷ []

  is : number_of (passed_u8 s samples row first count room) ≡ given rows_u8
  unfolding passed_u8
  is =
      numbered (bad_size s.set.layout.lines (windows s.set.layout) row)
      (bad_stored s store16) (bad_area s.set.layout.lines (windows s.set.layout) samples row first count room) (heavy_windows s)

  pub passed_u8_exactly : (n : ℕ) → Exactly (number_of (passed_u8 s samples row first count room) ≡ n) (Due n rows_u8)
  passed_u8_exactly n = rw is (exactly_due n rows_u8 refl)
