-- A stored set's excesses are right exactly where none is bad: as many as windows, each its window's. Cited by the promises, wherever a set was judged or made. Assumes nothing.
use mathlib.Core.Path.{◌≡◌, refl, ap}
use mathlib.Core.Bool.{Bool, true, false, not, ◌||◌}
use Prim.Native.Nat.{ℕ, ◌<◌}
use native.Mathlib.Nat.{le_refl, le_antisymm}
use lib.Dec.{eqb, ltb}
use lib.IntN.{ℤ, pos, negsuc}
use lib.ListN.{length, get_or}
use borrow.Author.Tests.{ltb-false, eqb-true, not-false, le-ltb, eq-eqb}
use Rattle.lists.specs.Tab.{any}
use Rattle.lists.proofs.AnyLaws.{any_none, none_any}
use Rattle.lists.proofs.BoolLaws.{never, or_left, or_right}
use Rattle.windows.specs.declared.Store.{Store}
use Rattle.windows.specs.Set.{Stored, windows, excess_of}
use Rattle.windows.specs.Store.{bad_precision}
use Rattle.windows.specs.Fit.{differ, bad_set, bad_excess, bad_excesses, bad_stored}

-- neither of two numbers is below the other: they are equal
pub alike : (x y : ℤ) → differ x y ≡ false → x ≡ y
alike (pos a) (pos b) h = ap pos (le_antisymm (ltb-false b a (or_right (ltb a b) (ltb b a) h)) (ltb-false a b (or_left (ltb a b) (ltb b a) h)))
alike (pos a) (negsuc b) h = never h
alike (negsuc a) (pos b) h = never h
alike (negsuc a) (negsuc b) h = ap negsuc (le_antisymm (ltb-false b a (or_left (ltb b a) (ltb a b) h)) (ltb-false a b (or_right (ltb b a) (ltb a b) h)))

pub not_differ : (x y : ℤ) → x ≡ y → differ x y ≡ false
not_differ x y e = rw e (itself y)
  where
    itself : (x : ℤ) → differ x x ≡ false
    itself (pos a) = rw (le-ltb a a (le_refl a))
    itself (negsuc a) = rw (le-ltb a a (le_refl a))

pub differ_other : (x y : ℤ) → (x ≡ y → ⊥) → differ x y ≡ true
differ_other x y h = go (differ x y) refl
  where
    go : (b : Bool) → differ x y ≡ b → b ≡ true
    go true q = refl
    go false q = absurd (h (alike x y q))

module _ (s : Stored) where
  abbrev full : Bool
  full = eqb (length s.excesses) (windows s.set.layout)

  pub right_count : bad_excesses s ≡ false → length s.excesses ≡ windows s.set.layout
  right_count h = eqb-true (length s.excesses) (windows s.set.layout) (not-false full (or_left (not full) (any (windows s.set.layout) (bad_excess s)) h))

  pub right_excess : bad_excesses s ≡ false → (i : ℕ) → i < windows s.set.layout → excess_of s i ≡ get_or s.excesses i (pos 0)
  right_excess h i l =
      alike (excess_of s i) (get_or s.excesses i (pos 0)) (any_none (bad_excess s) (windows s.set.layout) (or_right (not full) (any (windows s.set.layout) (bad_excess s)) h) i l)

  pub right_excesses : length s.excesses ≡ windows s.set.layout → ((i : ℕ) → i < windows s.set.layout → excess_of s i ≡ get_or s.excesses i (pos 0)) → bad_excesses s ≡ false
  right_excesses count each =
      rw (eq-eqb (length s.excesses) (windows s.set.layout) count)
      (none_any (bad_excess s) (windows s.set.layout) (λ i l. not_differ (excess_of s i) (get_or s.excesses i (pos 0)) (each i l)))

  -- the excesses of a set that was judged
  pub judged_excesses : (store : Store) → bad_stored s store ≡ false → bad_excesses s ≡ false
  judged_excesses store h = or_right (bad_set s.set.layout (length s.set.weights) || bad_precision store s.precision) (bad_excesses s) h
