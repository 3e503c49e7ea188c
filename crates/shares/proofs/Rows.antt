-- For the customer: each number of a restart, of a set put in and of a pass is given exactly when its test holds and none that is judged before it does, and No. 0 exactly when none
-- holds; so for every call one row applies and no other. Cited by docs/CONTRACTS.md. Assumes nothing.
use Rattle.std.specs.Prelude.{Ok, Err, Option, Some, None}
use mathlib.Core.Path.{◌≡◌, refl, sym, ap, ◌∙◌}
use mathlib.Core.Bool.{Bool, true, false, cond, ◌||◌}
use mathlib.Core.List.{[]}
use Prim.Native.Nat.{ℕ, ◌+◌}
use lib.Dec.{ltb}
use lib.ListN.{length}
use Rattle.lists.specs.Ladder.{Exactly, given, Due}
use Rattle.lists.specs.Ranges.{bad_sides_value}
use Rattle.lists.proofs.LadderLaws.{exactly_due}
use Rattle.refusal.specs.declared.Refusal.TheVariants.{BadSide, DoesNotFit, SharesDoNotFit}
use Rattle.filters.specs.declared.Filter.{Filter}
use Rattle.filters.specs.Names.{picked_of, is_retired}
use Rattle.filters.proofs.NameLaws.{none_retired, picked_stays}
use Rattle.crop_box.specs.Crop.{not_finite_value, negative_extent_value, start_outside_value, end_outside_value, crop_of}
use Rattle.windows.specs.Set.{windows}
use Rattle.windows.specs.Store.{store32}
use Rattle.windows.specs.Fit.{bad_stored}
use Rattle.plans.specs.declared.Plan.{Plan}
use Rattle.plans.specs.declared.Request.{Request}
use Rattle.plans.specs.Plan.{bad_output, no_scale, scaled, after_crop, plan_with_value, plan_of}
use Rattle.plan_windows.specs.Lines.{or_zero}
use Rattle.coefficients.specs.Answer.{number_of as numberOfBuilt}
use Rattle.coefficients.specs.Request.{judged, built_of}
use Rattle.normalizer.specs.Answer.{bad_weights}
use Rattle.made_sets.specs.Made.{planned_set, made_of, answer_of}
use Rattle.made_sets.proofs.Planned.{planned, plan}
use Rattle.made_sets.proofs.Fitting.{made_number}
use Rattle.vertical.specs.Passed.{number_of as numberOfPassed}
use Rattle.vertical.specs.Frame.{bad_size, bad_area}
use Rattle.vertical.specs.U16.{passed_u16}
use Rattle.shares.specs.Restarted.{number_of}
use Rattle.shares.specs.Store.{Store, bad_lists_value, Held, nothing, holding, View}
use Rattle.shares.specs.Scratch.{Scratch, too_short}
use Rattle.shares.specs.Machine.{restarted_of, entered, put_of, put_answer, passed_with}
use Rattle.shares.proofs.Tests.{rows_restart, edge, asked, few_slots, some_blank, outside, rows_put, rows_pass}

-- ---- a restart
numbered : (a b : Bool) → number_of (cond a (Err DoesNotFit) (cond b (Err SharesDoNotFit) (Ok tt))) ≡ cond a 10 (cond b 15 0)
numbered true b = refl
numbered false true = refl
numbered false false = refl

module _ (s : Store) (first second : ℕ) where
  restart_is : number_of (restarted_of s first second) ≡ given (rows_restart s first second)
  unfolding restarted_of
  restart_is = numbered (bad_lists_value s) (ltb (length s.slots) (first + second))

  pub restarted_exactly : (n : ℕ) → Exactly (number_of (restarted_of s first second) ≡ n) (Due n (rows_restart s first second))
  restarted_exactly n = rw restart_is (exactly_due n (rows_restart s first second) refl)

-- ---- a set put in
module _ (v : View) (q : Request) (lent : Scratch) where
  module _ (k : Filter) (is : picked_of q.filter ≡ Some k) where
    stays : is_retired q.filter ≡ false
    stays = picked_stays q.filter k is

    -- a set that is built
    nine : plan_of q ≡ Ok (asked v q k) → built_of q v.room 8192 8192 ≡ Ok (asked v q k).window → numberOfBuilt (answer_of (made_of q v.room)) ≡ cond (outside v q (asked v q k)) 9 0
    nine ready done =
        let known : Ok (plan q v.room (asked v q k).window done) ≡ Ok (asked v q k) = sym (planned q v.room (asked v q k).window done).ready ∙ ready in
        let same : plan q v.room (asked v q k).window done ≡ asked v q k = cc in
        made_number q v.room (asked v q k).window done ∙ ap (λ (p : Plan). cond (bad_weights store32 (planned_set p) v.room 8192) 9 0) same

    by : (t a b c d e f g h i : Bool) → v.shut || too_short v.room lent ≡ t → bad_output q.output ≡ a → bad_sides_value q.width q.height ≡ b → not_finite_value q.crop ≡ c → negative_extent_value q.crop ≡ d → start_outside_value q.width q.height q.crop ≡ e → end_outside_value q.width q.height q.crop ≡ f → no_scale (edge v q) q.output ≡ g → few_slots v q (asked v q k) ≡ h → some_blank v q (asked v q k) ≡ i → numberOfBuilt (put_answer v q lent) ≡ given (rows_put v q lent)
    unfolding put_of entered answer_of made_of plan_of plan_with_value after_crop crop_of scaled judged or_zero
    by true a b c d e f g h i T A B C D E F G H I = rw (stays, is, T)
    by false true b c d e f g h i T A B C D E F G H I = rw (stays, is, T, A)
    by false false true c d e f g h i T A B C D E F G H I = rw (stays, is, T, A, B)
    by false false false true d e f g h i T A B C D E F G H I = rw (stays, is, T, A, B, C)
    by false false false false true e f g h i T A B C D E F G H I = rw (stays, is, T, A, B, C, D)
    by false false false false false true f g h i T A B C D E F G H I = rw (stays, is, T, A, B, C, D, E)
    by false false false false false false true g h i T A B C D E F G H I = rw (stays, is, T, A, B, C, D, E, F)
    by false false false false false false false true h i T A B C D E F G H I = rw (stays, is, T, A, B, C, D, E, F, G)
    by false false false false false false false false true i T A B C D E F G H I = rw (stays, is, T, A, B, C, D, E, F, G, H)
    by false false false false false false false false false true T A B C D E F G H I = rw (stays, is, T, A, B, C, D, E, F, G, H, I)
    by false false false false false false false false false false T A B C D E F G H I =
        let ready : plan_of q ≡ Ok (asked v q k) = rw (is, A, B, C, D, E, F, G) in
        let done : built_of q v.room 8192 8192 ≡ Ok (asked v q k).window = rw (is, A, B, C, D, E, F, G, H, I) in
        let last = nine ready done in
        rw (stays, is, T, A, B, C, D, E, F, G, H, I) (rw (is, A, B, C, D, E, F, G, H, I) at last)

  -- and where the name is retired
  first : picked_of q.filter ≡ None → numberOfBuilt (put_answer v q lent) ≡ given (rows_put v q lent)
  unfolding put_of entered answer_of
  first is = rw (none_retired q.filter is)

  put_is : numberOfBuilt (put_answer v q lent) ≡ given (rows_put v q lent)
  put_is = go (picked_of q.filter) refl
    where
      go : (x : Option Filter) → picked_of q.filter ≡ x → numberOfBuilt (put_answer v q lent) ≡ given (rows_put v q lent)
      go None e = first e
      go (Some k) e = by k e _ _ _ _ _ _ _ _ _ _ refl refl refl refl refl refl refl refl refl refl

  pub put_exactly : (n : ℕ) → Exactly (numberOfBuilt (put_answer v q lent) ≡ n) (Due n (rows_put v q lent))
  put_exactly n = rw put_is (exactly_due n (rows_put v q lent) refl)

-- ---- a pass
passed_is : (a b c : Bool) → numberOfPassed (cond a (Err BadSide) (cond b (Err DoesNotFit) (cond c (Err DoesNotFit) (Ok tt)))) ≡ cond a 1 (cond (b || c) 10 0)
passed_is true b c = refl
passed_is false true c = refl
passed_is false false true = refl
passed_is false false false = refl

pass_is : (has : Held) (samples row first count room : ℕ) → numberOfPassed (passed_with has samples row first count room) ≡ given (rows_pass has samples row first count room)
unfolding passed_with passed_u16
pass_is nothing samples row first count room = refl
pass_is (holding s) samples row first count room =
    passed_is (bad_size s.set.layout.lines (windows s.set.layout) row) (bad_stored s store32) (bad_area s.set.layout.lines (windows s.set.layout) samples row first count room)

pub passed_exactly : (has : Held) (samples row first count room n : ℕ) → Exactly (numberOfPassed (passed_with has samples row first count room) ≡ n) (Due n (rows_pass has samples row first count room))
passed_exactly has samples row first count room n = rw (pass_is has samples row first count room) (exactly_due n (rows_pass has samples row first count room) refl)
