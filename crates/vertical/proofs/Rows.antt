-- For the customer: each of No. 1 and 10, and of the f32 pass 12, is given exactly when its test holds and none before it does, and No. 0 exactly when none holds; so
-- for every input one row applies and no other. Cited by docs/CONTRACTS.md. Assumes nothing.
use Rattle.std.specs.Prelude.{Ok, Err}
use mathlib.Core.Path.{◌≡◌, refl}
use mathlib.Core.Bool.{Bool, true, false, cond, ◌||◌}
use mathlib.Core.List.{List}
use Prim.Native.Nat.{ℕ}
use lib.Ieee.{Float, nan}
use lib.ListN.{length}
use Rattle.lists.specs.Ladder.{Exactly, given, Due}
use Rattle.lists.proofs.LadderLaws.{exactly_due}
use Rattle.refusal.specs.declared.Refusal.TheVariants.{BadSide, DoesNotFit, SampleOutside}
use Rattle.windows.specs.Set.{Set, Stored, windows}
use Rattle.windows.specs.Store.{store32}
use Rattle.windows.specs.Fit.{bad_stored}
use Rattle.vertical.specs.Passed.{number_of}
use Rattle.vertical.specs.PassedF32.{number_of as numberOfF32}
use Rattle.vertical.specs.Frame.{frame, output, bad_size, bad_area, bad_shape}
use Rattle.vertical.specs.U16.{passed_u16}
use Rattle.vertical.specs.F32.{value_f32, infinities, bad_weights, bad_samples, passed_f32}
use Rattle.vertical.proofs.Tests.{rows_u16, rows_f32}

numbered : (a b c : Bool) → number_of (cond a (Err BadSide) (cond b (Err DoesNotFit) (cond c (Err DoesNotFit) (Ok tt)))) ≡ cond a 1 (cond (b || c) 10 0)
numbered true b c = refl
numbered false true c = refl
numbered false false true = refl
numbered false false false = refl

module _ (s : Stored) (samples row first count room : ℕ) where
  is : number_of (passed_u16 s samples row first count room) ≡ given (rows_u16 s samples row first count room)
  unfolding passed_u16
  is =
      numbered (bad_size s.set.layout.lines (windows s.set.layout) row)
      (bad_stored s store32) (bad_area s.set.layout.lines (windows s.set.layout) samples row first count room)

  pub passed_u16_exactly : (n : ℕ) → Exactly (number_of (passed_u16 s samples row first count room) ≡ n) (Due n (rows_u16 s samples row first count room))
  passed_u16_exactly n = rw is (exactly_due n (rows_u16 s samples row first count room) refl)

numbered_f32 : (a b c d : Bool) (n : ℕ) → numberOfF32 (cond a (Err BadSide) (cond b (Err DoesNotFit) (cond c (Err SampleOutside) (cond d (Err SampleOutside) (Ok n))))) ≡ cond a 1 (cond b 10 (cond (c || d) 12 0))
numbered_f32 true b c d n = refl
numbered_f32 false true c d n = refl
numbered_f32 false false true d n = refl
numbered_f32 false false false true n = refl
numbered_f32 false false false false n = refl

module _ (s : Set Float) (src : List Float) (row first count room : ℕ) where
  f32_is : numberOfF32 (passed_f32 s src row first count room) ≡ given (rows_f32 s src row first count room)
  unfolding passed_f32
  f32_is =
      numbered_f32 (bad_size s.layout.lines (windows s.layout) row)
      (bad_shape s.layout (length s.weights) (length src) row first count room) (bad_weights s) (bad_samples s src row first count)
      (infinities (output (value_f32 s (frame nan src row)) (windows s.layout) first count))

  pub passed_f32_exactly : (n : ℕ) → Exactly (numberOfF32 (passed_f32 s src row first count room) ≡ n) (Due n (rows_f32 s src row first count room))
  passed_f32_exactly n = rw f32_is (exactly_due n (rows_f32 s src row first count room) refl)
