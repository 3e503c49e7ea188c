-- A ladder gives a number exactly when that number is due. Cited wherever a table of refusals is stated as "exactly when". Assumes nothing.
use mathlib.Core.Path.{◌≡◌, refl, sym}
use mathlib.Core.Bool.{Bool, true, false, cond, not, ◌&&◌}
use mathlib.Core.List.{List, [], ◌∷◌}
use Prim.Native.Nat.{ℕ}
use lib.Dec.{eqb}
use borrow.Author.Tests.{eqb-true, eqb-false, eq-eqb, not-true}
use Rattle.lists.specs.Ladder.{Exactly, given, Choice, Due, fresh, apart}
use Rattle.lists.proofs.BoolLaws.{never, and_left, and_right}

-- a rung of another number and what follows it give another number
past : (t : Bool) (n m r : ℕ) → (n ≡ m → ⊥) → (r ≡ n → ⊥) → cond t m r ≡ n → ⊥
past true n m r other rest e = other (sym e)
past false n m r other rest e = rest e

-- so a fresh number is not given
not_given : (n : ℕ) (rungs : List (Bool × ℕ)) → fresh n rungs ≡ true → given rungs ≡ n → ⊥
not_given n [] h = λ e. eqb-false n 0 (not-true (eqb n 0) h) (sym e)
not_given n (rung ∷ rest) h =
    past rung.0 n rung.1 (given rest)
    (eqb-false n rung.1 (not-true (eqb n rung.1) (and_left (not (eqb n rung.1)) (fresh n rest) h)))
    (not_given n rest (and_right (not (eqb n rung.1)) (fresh n rest) h))

-- one rung: its own number, and another
own : (t : Bool) (n m r : ℕ) → n ≡ m → (r ≡ n → ⊥) → Exactly (cond t m r ≡ n) (t ≡ true)
own true n m r e other = ((λ h. refl), (λ h. sym e))
own false n m r e other = ((λ h. absurd (other h)), (λ h. never (sym h)))

further : (t : Bool) (n m r : ℕ) {D : Type 0} → (n ≡ m → ⊥) → Exactly (r ≡ n) D → Exactly (cond t m r ≡ n) ((t ≡ false) × D)
further true n m r other rest = ((λ h. absurd (other (sym h))), (λ h. never h.0))
further false n m r other rest = ((λ h. (refl, rest.0 h)), (λ h. rest.1 h.1))

rung_is : (t : Bool) (n m r : ℕ) {D : Type 0} (same : Bool) → eqb n m ≡ same → (r ≡ m → ⊥) → Exactly (r ≡ n) D → Exactly (cond t m r ≡ n) (Choice same (t ≡ true) ((t ≡ false) × D))
rung_is t n m r true h other rest = let e = eqb-true n m h in own t n m r e (λ g. other (rw e at g))
rung_is t n m r false h other rest = further t n m r (eqb-false n m h) rest

pub exactly_due : (n : ℕ) (rungs : List (Bool × ℕ)) → apart rungs ≡ true → Exactly (given rungs ≡ n) (Due n rungs)
exactly_due n [] h = (sym, sym)
exactly_due n (rung ∷ rest) h =
    rung_is rung.0 n rung.1 (given rest) (eqb n rung.1) refl
    (not_given rung.1 rest (and_left (fresh rung.1 rest) (apart rest) h))
    (exactly_due n rest (and_right (fresh rung.1 rest) (apart rest) h))
