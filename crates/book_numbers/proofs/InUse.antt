-- Only weights in use count: what is asked of a window goes by its precision, its size and the weights below it, so that an idle slot may hold anything, a negative weight too.
-- Cited by the windows that are counted from their lines. Assumes nothing.
use mathlib.Core.Path.{◌≡◌, refl, sym, ap, ◌∙◌}
use Prim.Native.Nat.{ℕ, zero, suc, ◌+◌, ◌<◌}
use native.Mathlib.Nat.{zero-add}
use native.Mathlib.Omega.{arith}
use lib.IntN.{ℤ, pos}
use Rattle.lists.specs.Tab.{tab}
use Rattle.lists.proofs.TabLaws.{tab_ext}
use Rattle.orders.specs.Negative.{some_negative_value}
use Rattle.windows.specs.Set.{Stored, windows, size, weight, excess}
use Rattle.excesses.proofs.SameExcess.{excess_ext}
use Rattle.book_numbers.specs.Marks.{Mark, mark, mark_of, marks_of}

-- what is asked of n weights at a precision
abbrev pub mark_in : ℕ → (ℕ → ℤ) → ℕ → Mark
mark_in p w n = mark p (excess p w n) (some_negative_value w n)

negative_ext : (f g : ℕ → ℤ) (n : ℕ) → ((k : ℕ) → k < n → f k ≡ g k) → some_negative_value f n ≡ some_negative_value g n
negative_ext f g zero h = refl
negative_ext f g (suc n) h = rw (negative_ext f g n (λ k l. h k (omega arith)), h n (omega arith))

pub mark_ext : (p n m : ℕ) (f g : ℕ → ℤ) → n ≡ m → ((k : ℕ) → k < n → f k ≡ g k) → mark_in p f n ≡ mark_in p g m
mark_ext p n m f g e h = (λ i. mark p (excess_ext f g p n h i) (negative_ext f g n h i)) ∙ ap (mark_in p g) e

pub mark_is : (s : Stored) (i : ℕ) → mark_of s i ≡ mark_in s.precision (weight s.set (pos 0) i) (size s.set.layout i)
unfolding excess
mark_is s i = refl

-- IDLE SLOTS DO NOT COUNT: sets with the same weights in use have the same numbers
pub in_use : (s t : Stored) → windows s.set.layout ≡ windows t.set.layout → s.precision ≡ t.precision → ((i : ℕ) → i < windows s.set.layout → size s.set.layout i ≡ size t.set.layout i) → ((i k : ℕ) → i < windows s.set.layout → k < size s.set.layout i → weight s.set (pos 0) i k ≡ weight t.set (pos 0) i k) → marks_of s ≡ marks_of t
in_use s t count precision sizes weights =
    tab_ext 0 (windows s.set.layout) (mark_of s) (mark_of t) (λ i l. same (0 + i) (rw zero-add l)) ∙ ap (λ (n : ℕ). tab 0 n (mark_of t)) count
  where
    same : (i : ℕ) → i < windows s.set.layout → mark_of s i ≡ mark_of t i
    same i l =
        mark_is s i ∙ mark_ext s.precision (size s.set.layout i) (size t.set.layout i) (weight s.set (pos 0) i) (weight t.set (pos 0) i) (sizes i l) (λ k m. weights i k l m)
        ∙ ap (λ (p : ℕ). mark_in p (weight t.set (pos 0) i) (size t.set.layout i)) precision ∙ sym (mark_is t i)
