-- A call of one client leaves the other's part of every list as it was; and a refused call leaves the store as it was, No. 8 included. Assumes nothing.
use Rattle.std.specs.Prelude.{Result, Ok, Err, ⊤}
use mathlib.Core.Path.{◌≡◌, refl, ap}
use mathlib.Core.List.{List, [], ◌∷◌}
use Prim.Native.Nat.{ℕ, ◌+◌, ◌*◌, ◌≤◌}
use native.Mathlib.Nat.{le_of_eq}
use native.Mathlib.Omega.{arith}
use lib.ListN.{length}
use Rattle.text.specs.Text.{laid}
use Rattle.windows.specs.Set.{Stored}
use Rattle.coefficients.specs.Answer.{number_of as numberOfBuilt}
use Rattle.made_sets.specs.Made.{Made, new, none, answer_of}
use Rattle.made_sets.proofs.Made.{Fits}
use Rattle.refusal.specs.declared.Refusal.{Refusal}
use Rattle.vertical.specs.Passed.{number_of as numberOfPassed, after as afterPass}
use Rattle.vertical.specs.U16.{passed_u16, written_u16}
use Rattle.shares.specs.Restarted.{number_of}
use Rattle.shares.specs.Store.{Store, store_of, part, share, Held, nothing, holding, view_of}
use Rattle.shares.specs.Machine.{restarted_of, numbers_by, put_of, with_set, after, passed_with, written_with, puts, passes, next}
use Rattle.shares.specs.Apart.{PartsKept, OtherPartsKept, RefusedUnchanged}
use Rattle.shares.proofs.Parts.{part_before, part_behind}
use Rattle.shares.proofs.Opened.{Open, open_store, pick}
use Rattle.shares.proofs.OtherView.{other_slots, other_lines, few_sizes, few_excesses}
use Rattle.shares.proofs.Apart.{Known, known_put}

all_kept : (c : ℕ) (s : Store) → PartsKept c s s
all_kept c s = record { numbers = refl; slots = refl; starts = refl; sizes = refl; excesses = refl }

other_numbers : (l : List ℕ) (c d v w x y : ℕ) → d ≤ 1 → c ≤ 1 → (c ≡ d → ⊥) → part (c * 5) 5 (laid l (d * 5 + 1) (v ∷ w ∷ x ∷ y ∷ [])) ≡ part (c * 5) 5 l
other_numbers l c d v w x y hd hc apart =
    pick c d hd hc apart
    (λ e1 e2. part_before l (v ∷ w ∷ x ∷ y ∷ []) (d * 5 + 1) (c * 5) 5 (omega arith))
    (λ e1 e2. part_behind l (v ∷ w ∷ x ∷ y ∷ []) (d * 5 + 1) (c * 5) 5 (omega arith))

set_kept : (s : Store) (d : ℕ) (stored : Stored) → Fits (share s d) stored → Open s d → (c : ℕ) → c ≤ 1 → (c ≡ d → ⊥) → PartsKept c s (with_set s d stored)
unfolding with_set
set_kept s d stored fit o c one apart = record {
  numbers = other_numbers s.numbers c d _ _ _ _ o.one_of_two one apart;
  slots = other_slots s d stored fit o c (share s c) apart one (le_of_eq refl);
  starts = other_lines s d stored fit o c 8192 s.starts stored.set.layout.starts apart one (le_of_eq refl) fit.few;
  sizes = other_lines s d stored fit o c 8192 s.sizes stored.set.layout.sizes apart one (le_of_eq refl) (few_sizes s d stored fit o);
  excesses = other_lines s d stored fit o c 8192 s.excesses stored.excesses apart one (le_of_eq refl) (few_excesses s d stored fit o);
}

made_kept : (s : Store) (d : ℕ) (m : Made) → Known s d m → (c : ℕ) → c ≤ 1 → (c ≡ d → ⊥) → PartsKept c s (after s d m)
unfolding after Known
made_kept s d (none answer) k c one apart = all_kept c s
made_kept s d (new stored) k c one apart = set_kept s d stored k.1 (open_store s d k.0) c one apart

pub other_parts_kept : OtherPartsKept
unfolding next
other_parts_kept s d (puts q lent) c one apart = made_kept s d (put_of (view_of s d) q lent) (known_put s d q lent) c one apart
other_parts_kept s d (passes src row first count out) c one apart = all_kept c s

-- ---- refused
restart_kept : (r : Result ⊤ Refusal) (a b : ℕ) (old : List ℕ) → (number_of r ≡ 0 → ⊥) → numbers_by r a b old ≡ old
unfolding numbers_by
restart_kept (Ok tt) a b old h = absurd (h refl)
restart_kept (Err refusal) a b old h = refl

put_kept : (s : Store) (c : ℕ) (m : Made) → (numberOfBuilt (answer_of m) ≡ 0 → ⊥) → after s c m ≡ s
unfolding after answer_of
put_kept s c (new stored) h = absurd (h refl)
put_kept s c (none answer) h = refl

passed_kept : (a : Result ⊤ Refusal) (written old : List ℕ) → (numberOfPassed a ≡ 0 → ⊥) → afterPass a written old ≡ old
passed_kept (Ok tt) written old h = absurd (h refl)
passed_kept (Err refusal) written old h = refl

pass_kept : (v : Held) (src : List ℕ) (row first count : ℕ) (out : List ℕ) → (numberOfPassed (passed_with v (length src) row first count (length out)) ≡ 0 → ⊥) → written_with v src row first count out ≡ out
unfolding passed_with written_with written_u16
pass_kept nothing src row first count out h = refl
pass_kept (holding stored) src row first count out h = passed_kept (passed_u16 stored (length src) row first count (length out)) _ out h

pub refused_unchanged : RefusedUnchanged
unfolding next
refused_unchanged = record {
  restart = λ s a b h. ap (λ (l : List ℕ). store_of l s.slots s.starts s.sizes s.excesses) (restart_kept (restarted_of s a b) a b s.numbers h);
  put = λ s c q lent h. put_kept s c (put_of (view_of s c) q lent) h;
  pass = λ s c src row first count out h. pass_kept (view_of s c).has src row first count out h;
}
