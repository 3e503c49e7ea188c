-- `largest` is what document 01 calls the largest weight: where all weights are finite it is a weight of the set, and none is larger. The fold keeps both from slot to
-- slot, since of two finite doubles `larger` is one and is below neither. Cited by docs/CONTRACTS.md. Assumes nothing.
use Rattle.std.proofs.Common.{◌≡◌, ℕ, zero, suc, ◌<◌, ◌≤◌, Bool, true, false, cond, not, T, List, [], ◌∷◌, length, get_or, sym, refl, ◌∙◌, subst, le_refl, not-suc-le-zero, le_of_lt, arith, le→leb, below_more, ltb-false, ltb-true}
use lib.Ieee.{Float, nan, inf, fin, lt, le}
use lib.Ieee.Scale.{finite}
use Rattle.lists.specs.Tab.{any, turns}
use Rattle.lists.proofs.AnyLaws.{any_none}
use Rattle.lists.proofs.BoolLaws.{never}
use Rattle.floats.specs.Doubles.{is_finite, zero64}
use Rattle.floats.proofs.Signs.{lhs, rhs, lt_nat, le_nat, le_trans_finite}
use Rattle.weight_precision.specs.Precision.{larger, largest}
use Rattle.weight_precision.specs.Weights.{not_finite_value}

-- x is the weight of some slot, and no slot's weight is above it
pub record LargestOf (weights : List Float) (x : Float) : Type 0 where
  pub slot : ℕ
  pub there : slot < length weights
  pub is : x ≡ get_or weights slot nan
  pub none_larger : (k : ℕ) → k < length weights → T (le (get_or weights k nan) x)

finite_is : (x : Float) → not (is_finite x) ≡ false → T (finite x)
finite_is nan h = never h
finite_is (inf s) h = never h
finite_is (fin s m e) h = tt

-- of two finite doubles, in plain numbers
le_of : (x y : Float) → T (finite x) → T (finite y) → lhs x y ≤ rhs x y → T (le x y)
le_of x y p q h = subst T (sym (le_nat x y p q)) (le→leb (lhs x y) (rhs x y) h)

-- neither is above the larger
module _ (x y : Float) (p : T (finite x)) (q : T (finite y)) where
  left : (below : Bool) → lt y x ≡ below → T (le x (cond below x y))
  left true h = le_of x x p p (le_refl (lhs x x))
  left false h = le_of x y p q (ltb-false (lhs y x) (rhs y x) (sym (lt_nat y x q p) ∙ h))

  right : (below : Bool) → lt y x ≡ below → T (le y (cond below x y))
  right true h = le_of y x q p (le_of_lt (ltb-true (lhs y x) (rhs y x) (sym (lt_nat y x q p) ∙ h)))
  right false h = le_of y y q q (le_refl (lhs y y))

first_is : (l : List Float) → 0 < length l → get_or l 0 zero64 ≡ get_or l 0 nan
first_is [] h = absurd (omega arith)
first_is (x ∷ l) h = refl

-- a list that has a slot, all weights finite
module _ (weights : List Float) (some : 0 < length weights) (good : any (length weights) (not_finite_value weights) ≡ false) where
  weight_finite : (k : ℕ) → k < length weights → T (finite (get_or weights k nan))
  weight_finite k h = finite_is (get_or weights k nan) (any_none (not_finite_value weights) (length weights) good k h)

  abbrev up_to : ℕ → Float
  up_to n = turns (λ x k. larger x (get_or weights k nan)) (get_or weights 0 zero64) n

  -- x is a weight of the list, and none of the first n is above it
  record Found (n : ℕ) (x : Float) : Type 0 where
    pub slot : ℕ
    pub there : slot < length weights
    pub is : x ≡ get_or weights slot nan
    pub none_larger : (k : ℕ) → k < n → T (le (get_or weights k nan) x)

  -- one slot more
  module _ (n : ℕ) (h : n < length weights) (x : Float) (f : Found n x) where
    abbrev w : Float
    w = get_or weights n nan

    good_x : T (finite x)
    good_x = subst (λ (y : Float). T (finite y)) (sym f.is) (weight_finite f.slot f.there)

    all : (y : Float) → T (finite y) → T (le x y) → T (le w y) → (k : ℕ) → k < suc n → T (le (get_or weights k nan) y)
    all y q over here k l =
        below_more (λ (k : ℕ). T (le (get_or weights k nan) y)) n
        (λ k m. le_trans_finite (get_or weights k nan) x y (weight_finite k (omega arith)) good_x q (f.none_larger k m) over)
        here k (omega arith)

    more : (below : Bool) → lt w x ≡ below → Found (suc n) (cond below x w)
    more true e = record {
      slot = f.slot;
      there = f.there;
      is = f.is;
      none_larger = all x good_x (left x w good_x (weight_finite n h) true e) (right x w good_x (weight_finite n h) true e);
    }
    more false e = record {
      slot = n;
      there = h;
      is = refl;
      none_larger = all w (weight_finite n h) (left x w good_x (weight_finite n h) false e) (right x w good_x (weight_finite n h) false e);
    }

  found : (n : ℕ) → n ≤ length weights → Found n (up_to n)
  found zero h = record { slot = 0; there = some; is = first_is weights some; none_larger = λ k l. absurd (not-suc-le-zero l) }
  found (suc n) h = more n h (up_to n) (found n (le_of_lt h)) (lt (get_or weights n nan) (up_to n)) refl

  pub largest_is : LargestOf weights (largest weights)
  unfolding largest
  largest_is =
      let f = found (length weights) (le_refl (length weights)) in
      record { slot = f.slot; there = f.there; is = f.is; none_larger = f.none_larger }
