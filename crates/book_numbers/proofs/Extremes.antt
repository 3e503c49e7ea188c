-- The least and the most of a report are what they are called: each is the excess of one of its windows, and no window's excess is below the one or above the other. Cited by
-- nothing: it shows that the definition is the paper's. Assumes nothing.
use mathlib.Core.Path.{◌≡◌, refl, sym, ◌∙◌}
use mathlib.Core.Bool.{Bool, true, false, cond}
use mathlib.Core.List.{List, [], ◌∷◌}
use Prim.Native.Nat.{ℕ, zero, suc, ◌<◌}
use native.Mathlib.Omega.{arith}
use lib.IntN.{ℤ}
use lib.ListN.{length, get_or}
use Rattle.lists.proofs.BoolLaws.{never}
use Rattle.book_numbers.specs.Marks.{Mark, below, above, former, extreme}
use Rattle.book_numbers.proofs.OrderLaws.{Order, below_order, above_order}

-- e is the excess of one of the windows l, and no excess of theirs comes before it
pub record First (before : ℤ → ℤ → Bool) (d : Mark) (l : List Mark) (e : ℤ) : Type 0 where
  pub none : (i : ℕ) → i < length l → before (get_or l i d).excess e ≡ false
  pub at : ℕ
  pub there : at < length l
  pub is : (get_or l at d).excess ≡ e

module _ (before : ℤ → ℤ → Bool) (order : Order before) (d : Mark) where
  -- the one of x and y that comes first, against r
  both : (x y r : ℤ) (b : Bool) → before y x ≡ b → before (cond b y x) r ≡ false → (before x r ≡ false) × (before y r ≡ false)
  both x y r true h k = (not_before (before x r) refl, k)
    where
      not_before : (b : Bool) → before x r ≡ b → before x r ≡ false
      not_before true e = never (sym (order.on y x r h e) ∙ k)
      not_before false e = e
  both x y r false h k = (k, order.off y x r h k)

  -- one window; and two first ones, given the same of the former of the two
  alone : (m : Mark) (i : ℕ) → i < 1 → before (get_or (m ∷ []) i d).excess m.excess ≡ false
  alone m zero l = order.own m.excess
  alone m (suc i) l = absurd (omega arith)

  module _ (m n : Mark) (l : List Mark) (r : ℤ) where
    abbrev pub one : Mark
    one = record { excess = former before m.excess n.excess; not_flat = m.not_flat; negative = m.negative }

    none_more : First before d (one ∷ l) r → (i : ℕ) → i < suc (suc (length l)) → before (get_or (m ∷ n ∷ l) i d).excess r ≡ false
    none_more f zero h = (both m.excess n.excess r (before n.excess m.excess) refl (f.none 0 (omega arith))).0
    none_more f (suc zero) h = (both m.excess n.excess r (before n.excess m.excess) refl (f.none 0 (omega arith))).1
    none_more f (suc (suc i)) h = f.none (suc i) (omega arith)

    -- which window has it
    abbrev Has : Type 0
    Has = (i : ℕ) × (i < suc (suc (length l))) × ((get_or (m ∷ n ∷ l) i d).excess ≡ r)

    either : (b : Bool) → cond b n.excess m.excess ≡ r → Has
    either true e = (1, omega arith, e)
    either false e = (0, omega arith, e)

    has : (i : ℕ) → i < suc (length l) → (get_or (one ∷ l) i d).excess ≡ r → Has
    has zero h e = either (before n.excess m.excess) e
    has (suc i) h e = (suc (suc i), omega arith, e)

  first_more : (m n : Mark) (l : List Mark) (r : ℤ) → First before d (one m n l r ∷ l) r → First before d (m ∷ n ∷ l) r
  first_more m n l r f = let h = has m n l r f.at f.there f.is in record { none = none_more m n l r f; at = h.0; there = h.1; is = h.2 }

  pub first_of : (m : Mark) (l : List Mark) → First before d (m ∷ l) (extreme before (m ∷ l))
  first_of m [] = record { none = alone m; at = 0; there = omega arith; is = refl }
  first_of m (n ∷ l) = first_more m n l (extreme before (m ∷ n ∷ l)) (first_of (one m n l (extreme before (m ∷ n ∷ l))) l)

-- THE LEAST AND THE MOST
pub least_is : (d m : Mark) (l : List Mark) → First below d (m ∷ l) (extreme below (m ∷ l))
least_is d m l = first_of below below_order d m l

pub most_is : (d m : Mark) (l : List Mark) → First above d (m ∷ l) (extreme above (m ∷ l))
most_is d m l = first_of above above_order d m l
