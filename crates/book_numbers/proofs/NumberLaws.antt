-- Counts and extremes of two lists of windows, one after the other. Cited by the laws of joined reports. Assumes nothing.
use mathlib.Core.Path.{◌≡◌, refl, sym, ap, ◌∙◌}
use mathlib.Core.Bool.{Bool, true, false, cond}
use mathlib.Core.List.{List, [], ◌∷◌, ◌++◌, append-nil}
use Prim.Native.Nat.{ℕ, ◌+◌, ◌≤◌}
use native.Mathlib.Nat.{zero-add, add_assoc}
use native.Mathlib.Omega.{arith}
use lib.Dec.{eqb-suc-zero}
use lib.IntN.{ℤ}
use lib.ListN.{length}
use Rattle.book_numbers.specs.Marks.{Mark, bit, how_many, former, former_of, extreme}
use Rattle.book_numbers.specs.Joins.{extreme_of}
use Rattle.book_numbers.proofs.OrderLaws.{Order}

module _ (t : Mark → Bool) where
  pub many_append : (l k : List Mark) → how_many t (l ++ k) ≡ how_many t l + how_many t k
  many_append [] k = sym (zero-add (how_many t k))
  many_append (m ∷ l) k = ap (λ (n : ℕ). bit (t m) + n) (many_append l k) ∙ sym (add_assoc (bit (t m)) (how_many t l) (how_many t k))

  bit_le : (b : Bool) → bit b ≤ 1
  bit_le true = omega arith
  bit_le false = omega arith

  pub many_le : (l : List Mark) → how_many t l ≤ length l
  many_le [] = omega arith
  many_le (m ∷ l) = omega (arith, bit_le (t m), many_le l)

module _ (before : ℤ → ℤ → Bool) (order : Order before) where
  former_assoc : (x y z : ℤ) → former before x (former before y z) ≡ former before (former before x y) z
  former_assoc x y z = by_tests (before z y) (before y x) refl refl
    where
      by_tests : (b d : Bool) → before z y ≡ b → before y x ≡ d → former before x (cond b z y) ≡ former before (cond d y x) z
      by_tests true true h k = rw (order.on z y x h k, h)
      by_tests true false h k = refl
      by_tests false true h k = rw (h, k)
      by_tests false false h k = rw (k, order.off z y x h k)

  go_on : (e : ℤ) (l k : List Mark) → former_of before e (l ++ k) ≡ former_of before (former_of before e l) k
  go_on e [] k = refl
  go_on e (m ∷ l) k = go_on (former before e m.excess) l k

  apart : (e f : ℤ) (k : List Mark) → former_of before (former before e f) k ≡ former before e (former_of before f k)
  apart e f [] = refl
  apart e f (m ∷ k) = ap (λ (x : ℤ). former_of before x k) (sym (former_assoc e f m.excess)) ∙ apart e (former before f m.excess) k

  pub extreme_append : (l k : List Mark) → extreme before (l ++ k) ≡ extreme_of before (length l) (extreme before l) (length k) (extreme before k)
  extreme_append [] k = refl
  extreme_append (m ∷ l) [] = rw (eqb-suc-zero (length l)) (ap (λ (k : List Mark). former_of before m.excess k) (append-nil l))
  extreme_append (m ∷ l) (n ∷ k) = rw (eqb-suc-zero (length l), eqb-suc-zero (length k)) (go_on m.excess l (n ∷ k) ∙ apart (former_of before m.excess l) n.excess k)
