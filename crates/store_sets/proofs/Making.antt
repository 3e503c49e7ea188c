-- What the steps of `make` give is what `made_of` says, by the builder's answer and then by the normaliser's. Cited by the proofs of functions here and of `shared_store`.
-- Assumes nothing.
use Rattle.std.specs.Prelude.{Result, Ok, Err}
use mathlib.Core.Path.{◌≡◌, refl, sym, ap, ◌∙◌}
use mathlib.Core.List.{List, ◌++◌}
use Prim.Native.Nat.{ℕ, ◌*◌, ◌≤◌}
use native.Mathlib.Nat.{le_trans, le_of_eq}
use lib.Ieee.{Float}
use lib.IntN.{ℤ}
use lib.ListN.{length, take, drop}
use Rattle.lists.specs.Tab.{tab, front}
use Rattle.lists.proofs.TabLaws.{length_tab}
use Rattle.text.specs.Text.{laid, over}
use Rattle.text.proofs.TextLaws.{laid_over}
use Rattle.windows.specs.Set.{layout_of, Set, set_of, windows}
use Rattle.windows.specs.Store.{store32}
use Rattle.plans.specs.declared.Request.{Request}
use Rattle.plans.specs.declared.Plan.{Plan}
use Rattle.coefficients.specs.Request.{built_of}
use Rattle.refusal.specs.declared.Refusal.{Refusal}
use Rattle.normalizer.specs.Answer.{normalized_of, written_by, written_of, excesses_by, excesses_of}
use Rattle.made_sets.specs.Made.{planned_set, stored_at, Made, after_normal, made_of}
use Rattle.store_sets.specs.Inner.{outcome, slots_after, excesses_after, told}
use Rattle.made_sets.proofs.Planned.{planned, plan, room}
use Rattle.made_sets.proofs.Choice.{made_done}
use Rattle.made_sets.proofs.Made.{planned_windows}

-- a beginning that is written is a text laid at 0
front_laid : (n : ℕ) (f : ℕ → ℤ) (old : List ℤ) → n ≤ length old → front n f old ≡ laid old 0 (tab 0 n f)
unfolding front over
front_laid n f old h =
    let long : length (tab 0 n f) ≡ n = length_tab 0 n f in
    ap (λ (k : ℕ). tab 0 n f ++ drop k old) (sym long) ∙ sym (laid_over old (tab 0 n f) (le_trans (le_of_eq long) h))

-- a set read out of lists that are known
pub lists_same : {l l1 : ℕ} {ds ds1 : List Float} {fs fs1 cs cs1 : List ℕ} (w n m : ℕ) → l1 ≡ l → ds1 ≡ ds → fs1 ≡ fs → cs1 ≡ cs → set_of (layout_of l1 w (take n fs1) (take n cs1)) (take m ds1) ≡ set_of (layout_of l w (take n fs) (take n cs)) (take m ds)
lists_same w n m e1 e2 e3 e4 = rw (e1, e2, e3, e4)

module _ (q : Request) (n : ℕ) where
  module _ (w : ℕ) (done : built_of q n 8192 8192 ≡ Ok w) where
    abbrev p : Plan
    p = plan q n w done

    abbrev answer : Result ℕ Refusal
    answer = normalized_of store32 (planned_set p) n 8192

    window_is : (planned_set p).layout.window_size_value ≡ w
    unfolding planned_set
    window_is = sym (planned q n w done).wide

    told_is : (y : Result ℕ Refusal) → told w y ≡ outcome (after_normal (planned_set p) y)
    unfolding outcome after_normal stored_at
    told_is (Ok precision) = ap (λ (v : ℕ). Ok (v, precision)) (sym window_is)
    told_is (Err refusal) = refl

    slots_are : (y : Result ℕ Refusal) (part : List ℤ) → n ≡ length part → written_by store32 (planned_set p) y part ≡ slots_after (after_normal (planned_set p) y) part
    unfolding written_by slots_after after_normal stored_at
    slots_are (Err refusal) part e = refl
    slots_are (Ok precision) part e =
        let few : windows (planned_set p).layout * (planned_set p).layout.window_size_value ≡ q.output * w = rw (planned_windows p, (room q n w done).windows_are, window_is) in
        front_laid _ _ part (le_trans (le_of_eq few) (le_trans (room q n w done).slots_there (le_of_eq e)))

    excesses_are : (y : Result ℕ Refusal) (old : List ℤ) → length old ≡ 8192 → excesses_by store32 (planned_set p) y old ≡ excesses_after (after_normal (planned_set p) y) old
    unfolding excesses_by excesses_after after_normal stored_at
    excesses_are (Err refusal) old e = refl
    excesses_are (Ok precision) old e =
        front_laid _ _ old (le_trans (le_of_eq (planned_windows p ∙ (room q n w done).windows_are)) (le_trans (room q n w done).few (le_of_eq (sym e))))

    -- the outcome and the two parts, by the normaliser's answer over the lists
    module _ (part old : List ℤ) (long : n ≡ length part) (all : length old ≡ 8192) (set : Set Float) (same : set ≡ planned_set p) where
      answer_is : normalized_of store32 set (length part) (length old) ≡ answer
      answer_is = rw (same, sym long, all)

      pub make_answer : (y : Result ℕ Refusal) → y ≡ normalized_of store32 set (length part) (length old) → told w y ≡ outcome (made_of q n)
      make_answer y e = told_is y ∙ ap (λ (z : Result ℕ Refusal). outcome (after_normal (planned_set p) z)) (e ∙ answer_is) ∙ ap outcome (sym (made_done q n w done))

      pub make_slots : written_of store32 set (length old) part ≡ slots_after (made_of q n) part
      unfolding written_of
      make_slots =
          ap (λ (z : Result ℕ Refusal). written_by store32 set z part) answer_is
          ∙ ap (λ (s : Set Float). written_by store32 s answer part) same
          ∙ slots_are answer part long ∙ ap (λ (m : Made). slots_after m part) (sym (made_done q n w done))

      pub make_excesses : excesses_of store32 set (length part) old ≡ excesses_after (made_of q n) old
      unfolding excesses_of
      make_excesses =
          ap (λ (z : Result ℕ Refusal). excesses_by store32 set z old) answer_is
          ∙ ap (λ (s : Set Float). excesses_by store32 s answer old) same
          ∙ excesses_are answer old all ∙ ap (λ (m : Made). excesses_after m old) (sym (made_done q n w done))
