-- For the customer: each of No. 1, 10 and 11 is given by `story` exactly when its test holds and none before it does, and No. 0 exactly when none holds; so for every
-- input one row applies and no other. Cited by docs/CONTRACTS.md. Assumes nothing.
use Rattle.std.specs.Prelude.{Ok, Err}
use mathlib.Core.Path.{◌≡◌, refl}
use mathlib.Core.Bool.{Bool, true, false, cond, ◌||◌}
use mathlib.Core.List.{List}
use Prim.Native.Nat.{ℕ}
use lib.ListN.{length}
use Rattle.lists.specs.Ladder.{Exactly, given, Due}
use Rattle.lists.proofs.LadderLaws.{exactly_due}
use Rattle.refusal.specs.declared.Refusal.TheVariants.{BadSide, DoesNotFit, NoRoom}
use Rattle.windows.specs.Set.{Stored, windows}
use Rattle.windows.specs.Store.{store32}
use Rattle.windows.specs.Fit.{bad_stored}
use Rattle.sheet.specs.Answer.{no_room}
use Rattle.vertical.specs.Frame.{bad_size, bad_frame}
use Rattle.story.specs.Answer.{bad_place, by_case, text_of, answer_of, number_of}
use Rattle.story.proofs.Tests.{rows}

numbered : (a b c d e : Bool) (n : ℕ) → number_of (cond a (Err BadSide) (cond b (Err DoesNotFit) (cond c (Err DoesNotFit) (cond d (Err DoesNotFit) (cond e (Err NoRoom) (Ok n)))))) ≡ cond a 1 (cond ((b || c) || d) 10 (cond e 11 0))
numbered true b c d e n = refl
numbered false true c d e n = refl
numbered false false true d e n = refl
numbered false false false true e n = refl
numbered false false false false true n = refl
numbered false false false false false n = refl

module _ (s : Stored) (src : List ℕ) (row i j room : ℕ) where
  is : number_of (answer_of s src row i j room) ≡ given (rows s src row i j room)
  unfolding by_case
  is =
      numbered (bad_size s.set.layout.lines (windows s.set.layout) row) (bad_stored s store32) (bad_frame (length src) s.set.layout.lines row)
      (bad_place (windows s.set.layout) row i j) (no_room room (length (text_of s src row i j))) (length (text_of s src row i j))

  pub told_exactly : (n : ℕ) → Exactly (number_of (answer_of s src row i j room) ≡ n) (Due n (rows s src row i j room))
  told_exactly n = rw is (exactly_due n (rows s src row i j room) refl)
