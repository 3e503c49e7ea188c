-- Neither client sees the other, over runs of any length. Each call moves the caller's view as `view_after` says, a function of that view, and no other's; so by induction over
-- the run what a client gets is a function of its view and its own calls (`alone`), and a restart leaves views that depend on the shares alone. Assumes nothing.
use Rattle.std.specs.Prelude.{Ok, Err}
use mathlib.Core.Path.{◌≡◌, refl, sym, ap, ◌∙◌, subst}
use mathlib.Core.Bool.{Bool, true, false, cond, ◌||◌}
use mathlib.Core.List.{List, [], ◌∷◌}
use Prim.Native.Nat.{ℕ, zero, suc, ◌+◌, ◌*◌, ◌≤◌}
use native.Mathlib.Omega.{arith}
use lib.Dec.{eqb, ltb}
use lib.ListN.{length, get_or, get_or-eq_default}
use borrow.Author.Tests.{eqb-true, eqb-false}
use Rattle.refusal.specs.declared.Refusal.TheVariants.{DoesNotFit, SharesDoNotFit, RetiredFilter}
use Rattle.filters.specs.Names.{is_retired}
use Rattle.plans.specs.declared.Request.{Request}
use Rattle.made_sets.specs.Made.{Made, new, none, refused_by, made_of}
use Rattle.made_sets.proofs.Made.{FitsMade, made_fits}
use Rattle.shares.specs.Restarted.{number_of}
use Rattle.shares.specs.Store.{Store, store_of, share, closed, unset, bad_lists_value, nothing, holding, held_in, View, view_with, view_of}
use Rattle.shares.specs.Scratch.{Scratch, too_short}
use Rattle.shares.specs.Machine.{restarted_of, emptied, numbers_by, entered, put_of, after, Call, puts, passes, restarts, by, answer_to, next, reply_to}
use Rattle.shares.specs.Runs.{Run, at_end, own, gathered}
use Rattle.shares.specs.Apart.{SameTo, share_of, NeitherSeesTheOther, SameFromTheSame, RestartEmpties, PutHeld}
use Rattle.shares.proofs.Opened.{open_store, lengths}
use Rattle.shares.proofs.OtherView.{other_view, view_ext}
use Rattle.shares.proofs.OwnView.{own_view}

-- ---- one call

-- what is known of a set that is put in: the store was open to the client, and the set fits its share
unfoldable pub Known : Store → ℕ → Made → Type 0
Known s c (new stored) = (closed s c ≡ false) × FitsMade (share s c) (new stored)
Known s c (none answer) = Unit {0}

known_made : (s : Store) (c : ℕ) (m : Made) → closed s c ≡ false → FitsMade (share s c) m → Known s c m
unfolding Known
known_made s c (new stored) o f = (o, f)
known_made s c (none answer) o f = tt

pub known_put : (s : Store) (c : ℕ) (q : Request) (lent : Scratch) → Known s c (put_of (view_of s c) q lent)
unfolding put_of entered view_of Known
known_put s c q lent = go (is_retired q.filter) (closed s c) refl (too_short (share s c) lent)
  where
    go : (r t : Bool) → closed s c ≡ t → (b : Bool) → Known s c (cond r (refused_by RetiredFilter) (cond (t || b) (refused_by DoesNotFit) (made_of q (share s c))))
    go true t e b = tt
    go false true e b = tt
    go false false e true = tt
    go false false e false = known_made s c (made_of q (share s c)) e (made_fits q (share s c))

other_after : (s : Store) (d c : ℕ) (m : Made) → Known s d m → (c ≡ d → ⊥) → view_of (after s d m) c ≡ view_of s c
unfolding after Known
other_after s d c (none answer) k apart = refl
other_after s d c (new stored) k apart = other_view s d stored k.1 (open_store s d k.0) c apart

-- the caller's view after a set was made for it, and after a call
view_by : View → Made → View
view_by v (new stored) = view_with v.shut v.room (holding stored)
view_by v (none answer) = v

view_after : View → Call → View
view_after v (puts q lent) = view_by v (put_of v q lent)
view_after v (passes src row first count out) = v

own_after : (s : Store) (c : ℕ) (m : Made) → Known s c m → view_of (after s c m) c ≡ view_by (view_of s c) m
unfolding after Known view_by view_of
own_after s c (none answer) k = refl
own_after s c (new stored) k = own_view s c stored k.1 (open_store s c k.0) k.0

unseen : (s : Store) (d : ℕ) (x : Call) (c : ℕ) → (c ≡ d → ⊥) → view_of (next s (by d x)) c ≡ view_of s c
unfolding next
unseen s d (puts q lent) c apart = other_after s d c (put_of (view_of s d) q lent) (known_put s d q lent) apart
unseen s d (passes src row first count out) c apart = refl

seen : (s : Store) (c : ℕ) (x : Call) → view_of (next s (by c x)) c ≡ view_after (view_of s c) x
unfolding next view_after
seen s c (puts q lent) = own_after s c (put_of (view_of s c) q lent) (known_put s c q lent)
seen s c (passes src row first count out) = refl

pub put_held : PutHeld
unfolding view_of view_after view_by
put_held s c q lent stored e = ap (λ (v : View). v.has) (seen s c (puts q lent) ∙ ap (view_by (view_of s c)) e)

-- what the caller is answered, it is answered by what it sees
answer_seen : (c : ℕ) (s : Store) (x : Call) → answer_to s (by c x) ≡ reply_to (view_of s c) x
unfolding answer_to
answer_seen c s x = refl

-- ---- runs: the same by the view alone
replies_by : {A : Type 0} → (View → Call → A) → View → List Call → List A
replies_by f v [] = []
replies_by f v (x ∷ xs) = f v x ∷ replies_by f (view_after v x) xs

view_at_end : View → List Call → View
view_at_end v [] = v
view_at_end v (x ∷ xs) = view_at_end (view_after v x) xs

module _ (c : ℕ) (s : Store) (x : ℕ × Call) (xs : Run) where
  abbrev then : Store
  then = next s (by x.0 x.1)

  moved : eqb x.0 c ≡ true → view_of then c ≡ view_after (view_of s c) x.1
  moved e = subst (λ (d : ℕ). view_of then d ≡ view_after (view_of s d) x.1) (eqb-true x.0 c e) (seen s x.0 x.1)

  still : eqb x.0 c ≡ false → view_of then c ≡ view_of s c
  still e = unseen s x.0 x.1 c (λ (p : c ≡ x.0). eqb-false x.0 c e (sym p))

  first_call : {A : Type 0} (f : Store → Call → A) (g : View → Call → A) → ((t : Store) (y : Call) → f t y ≡ g (view_of t c) y) → (t : Bool) → eqb x.0 c ≡ t → gathered f c then xs ≡ replies_by g (view_of then c) (own c xs)
      → cond t (f s x.1 ∷ gathered f c then xs) (gathered f c then xs) ≡ replies_by g (view_of s c) (cond t (x.1 ∷ own c xs) (own c xs))
  unfolding replies_by
  first_call {A = A} f g sees true e rest =
      ap (λ (y : A). y ∷ gathered f c then xs) (sees s x.1)
      ∙ ap (λ (l : List A). g (view_of s c) x.1 ∷ l) (rest ∙ ap (λ (v : View). replies_by g v (own c xs)) (moved e))
  first_call f g sees false e rest = rest ∙ ap (λ (v : View). replies_by g v (own c xs)) (still e)

  first_end : (t : Bool) → eqb x.0 c ≡ t → view_of (at_end then xs) c ≡ view_at_end (view_of then c) (own c xs) → view_of (at_end then xs) c ≡ view_at_end (view_of s c) (cond t (x.1 ∷ own c xs) (own c xs))
  unfolding view_at_end
  first_end true e rest = rest ∙ ap (λ (v : View). view_at_end v (own c xs)) (moved e)
  first_end false e rest = rest ∙ ap (λ (v : View). view_at_end v (own c xs)) (still e)

-- what a client gets is a function of its view and its own calls, and so is what it sees at the end
alone : {A : Type 0} (f : Store → Call → A) (g : View → Call → A) (c : ℕ) → ((t : Store) (y : Call) → f t y ≡ g (view_of t c) y) → (s : Store) (xs : Run) → gathered f c s xs ≡ replies_by g (view_of s c) (own c xs)
unfolding gathered own replies_by
alone f g c sees s [] = refl
alone f g c sees s (x ∷ xs) = first_call c s x xs f g sees (eqb x.0 c) refl (alone f g c sees (next s (by x.0 x.1)) xs)

alone_end : (c : ℕ) (s : Store) (xs : Run) → view_of (at_end s xs) c ≡ view_at_end (view_of s c) (own c xs)
unfolding at_end own view_at_end
alone_end c s [] = refl
alone_end c s (x ∷ xs) = first_end c s x xs (eqb x.0 c) refl (alone_end c (next s (by x.0 x.1)) xs)

module _ (c : ℕ) (s t : Store) (xs ys : Run) (look : view_of s c ≡ view_of t c) (calls : own c xs ≡ own c ys) where
  gathered_same : {A : Type 0} (f : Store → Call → A) (g : View → Call → A) → ((u : Store) (y : Call) → f u y ≡ g (view_of u c) y) → gathered f c s xs ≡ gathered f c t ys
  gathered_same f g sees = alone f g c sees s xs ∙ ap (λ (v : View). replies_by g v (own c xs)) look ∙ ap (replies_by g (view_of t c)) calls ∙ sym (alone f g c sees t ys)

  end_same : view_of (at_end s xs) c ≡ view_of (at_end t ys) c
  end_same = alone_end c s xs ∙ ap (λ (v : View). view_at_end v (own c xs)) look ∙ ap (view_at_end (view_of t c)) calls ∙ sym (alone_end c t ys)

  same : SameTo c s t xs ys
  unfolding view_of
  same = record {
    answered = gathered_same (λ u y. answer_to u (by c y)) reply_to (λ u y. answer_seen c u y);
    weights = gathered_same (λ u y. held_in u c) (λ v y. v.has) (λ u y. refl);
    holds = ap (λ (v : View). v.has) end_same;
  }

pub same_from_the_same : SameFromTheSame
same_from_the_same c s t xs ys look calls = same c s t xs ys look calls

-- ---- from a restart on
done_tests : (bad few : Bool) → number_of (cond bad (Err DoesNotFit) (cond few (Err SharesDoNotFit) (Ok tt))) ≡ 0 → (bad ≡ false) × (few ≡ false)
done_tests true few h = absurd (omega (arith, h))
done_tests false true h = absurd (omega (arith, h))
done_tests false false h = (refl, refl)

share_is : (a b c : ℕ) → get_or (emptied a b) (c * 5 + 0) 0 ≡ share_of c a b
share_is a b zero = refl
share_is a b (suc zero) = refl
share_is a b (suc (suc c)) = get_or-eq_default (emptied a b) 0 (let h : 10 ≤ suc (suc c) * 5 + 0 = omega arith in h)

no_set : (a b c : ℕ) → get_or (emptied a b) (c * 5 + 2) 0 ≡ 0
no_set a b zero = refl
no_set a b (suc zero) = refl
no_set a b (suc (suc c)) = get_or-eq_default (emptied a b) 0 (let h : 10 ≤ suc (suc c) * 5 + 2 = omega arith in h)

or_true : (t : Bool) → t || true ≡ true
or_true true = refl
or_true false = refl

module _ (s : Store) (a b : ℕ) (done : number_of (restarted_of s a b) ≡ 0) where
  tests : (bad_lists_value s ≡ false) × (ltb (length s.slots) (a + b) ≡ false)
  unfolding restarted_of
  tests = done_tests (bad_lists_value s) (ltb (length s.slots) (a + b)) done

  abbrev clean : Store
  clean = store_of (emptied a b) s.slots s.starts s.sizes s.excesses

  cleaned : next s (restarts a b) ≡ clean
  unfolding next restarted_of numbers_by
  cleaned = rw (tests.0, tests.1)

  lists_good : bad_lists_value clean ≡ false
  lists_good = let l = lengths (length s.numbers) (length s.starts) (length s.sizes) (length s.excesses) tests.0 in rw (l.starts, l.sizes, l.excesses)

  clean_closed : (c : ℕ) → closed clean c ≡ ltb 1 c
  unfolding closed
  clean_closed c = rw (lists_good, tests.1)

  clean_held : (c : ℕ) → held_in clean c ≡ nothing
  unfolding held_in unset
  clean_held c = rw (no_set a b c, or_true (closed clean c))

  clean_view : (c : ℕ) → view_of clean c ≡ view_with (ltb 1 c) (share_of c a b) nothing
  unfolding view_of
  clean_view c = view_ext (clean_closed c) (share_is a b c) (clean_held c)

pub restart_empties : RestartEmpties
restart_empties c s a b done = ap (λ (t : Store). view_of t c) (cleaned s a b done) ∙ clean_view s a b done c

pub neither_sees_the_other : NeitherSeesTheOther
neither_sees_the_other c s t a b a1 b1 xs ys d1 d2 e calls =
    same c (next s (restarts a b)) (next t (restarts a1 b1)) xs ys
    (restart_empties c s a b d1 ∙ ap (λ (n : ℕ). view_with (ltb 1 c) n nothing) e ∙ sym (restart_empties c t a1 b1 d2)) calls
