-- For the customer: each of No. 1, 10 and 11 is given by a writer exactly when its test holds and none before it does, and No. 0 exactly when none holds; so for every
-- input one row applies and no other. Over both stores. Cited by docs/CONTRACTS.md. Assumes nothing.
use Rattle.std.specs.Prelude.{Ok, Err}
use mathlib.Core.Path.{◌≡◌, refl}
use mathlib.Core.Bool.{Bool, true, false, cond}
use Prim.Native.Nat.{ℕ}
use lib.ListN.{length}
use Rattle.lists.specs.Ladder.{Exactly, given, Due}
use Rattle.lists.specs.Ranges.{bad_sides_value}
use Rattle.lists.proofs.LadderLaws.{exactly_due}
use Rattle.refusal.specs.declared.Refusal.TheVariants.{BadSide, DoesNotFit, NoRoom}
use Rattle.filters.specs.declared.FilterType.{FilterType}
use Rattle.windows.specs.declared.Store.{Store}
use Rattle.windows.specs.Set.{Stored, windows}
use Rattle.windows.specs.Fit.{bad_stored}
use Rattle.sheet.specs.Answer.{no_room, by_case, answer_of, number_of}
use Rattle.sheet.specs.Text.{sheet_text_value}
use Rattle.sheet.proofs.Tests.{rows}

numbered : (a b c : Bool) (n : ℕ) → number_of (cond a (Err BadSide) (cond b (Err DoesNotFit) (cond c (Err NoRoom) (Ok n)))) ≡ cond a 1 (cond b 10 (cond c 11 0))
numbered true b c n = refl
numbered false true c n = refl
numbered false false true n = refl
numbered false false false n = refl

module _ (kind : FilterType) (store : Store) (s : Stored) (room : ℕ) where
  is : number_of (answer_of kind store s room) ≡ given (rows kind store s room)
  unfolding by_case
  is =
      numbered (bad_sides_value s.set.layout.lines (windows s.set.layout)) (bad_stored s store)
      (no_room room (length (sheet_text_value kind store s))) (length (sheet_text_value kind store s))

  pub written_exactly : (n : ℕ) → Exactly (number_of (answer_of kind store s room) ≡ n) (Due n (rows kind store s room))
  written_exactly n = rw is (exactly_due n (rows kind store s room) refl)
