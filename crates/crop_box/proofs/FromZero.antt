-- A number from 0 on, minus zero among them: it is `num` over `den`, and two such numbers are in the order of their fractions. And what the tests of No. 2 to 4 leave
-- of a box. Cited by EndRest, EndLaws, the proof of `crop` and the builder's CropLaws. Assumes nothing.
use mathlib.Core.Path.{◌≡◌, refl, sym, ap, ◌∙◌, subst}
use mathlib.Core.Bool.{Bool, true, false, ◌&&◌, ◌||◌, false≢true}
use Prim.Native.Nat.{ℕ, ◌+◌, ◌*◌, ◌≤◌}
use native.Mathlib.Nat.{le_trans, le_of_eq, zero-mul, mul-one, add-zero}
use native.Mathlib.Omega.{arith}
use lib.IntN.{ℤ}
use lib.Dec.{T, ltb, leb→le}
use borrow.Author.Tests.{ltb-false, not-false}
use lib.Ieee.{Float, nan, inf, fin, up, lt, le, of_bits}
use lib.Ieee.Exact.{HasValue}
use lib.Ieee.Scale.{finite}
use lib.Ieee.Positive.{num, den}
use Rattle.lists.proofs.BoolLaws.{or_left, or_right, and_left, and_right}
use Rattle.floats.specs.Within.{Within}
use Rattle.floats.specs.Doubles.{is_finite, zero64, double}
use Rattle.floats.proofs.Signs.{plus, minus, lhs, rhs, lt_nat, le_nat}
use Rattle.crop_box.specs.End.{FromZero}
use Rattle.crop_box.specs.Crop.{not_finite_value, negative_extent_value, start_outside_value}
use Rattle.crop_box.specs.declared.CropBox.{CropBox}

-- ---- a number from 0 on, minus zero among them: nothing of it is on the side of the minus
pub none_left : (a b : ℕ) → ltb 0 (a * 1 + b) ≡ false → a ≡ 0
none_left a b h = let l : a * 1 + b ≤ 0 = ltb-false 0 (a * 1 + b) h in let o : a * 1 ≡ a = mul-one a in omega arith

pub minus_zero : (m : ℕ) (e : ℤ) → FromZero (fin true m e) → m * up e ≡ 0
unfolding lt of_bits
minus_zero m e h = none_left (m * up e) _ h.1

abbrev pub sign : Float → Bool
sign nan = false
sign (inf s) = s
sign (fin s m e) = s

pub record Plain (x : Float) : Type 0 where
  pub number : T (finite x)
  pub all : plus x ≡ num x
  pub none : minus x ≡ 0

pub plain : (x : Float) → FromZero x → Plain x
plain nan h = absurd (false≢true h.0)
plain (inf s) h = absurd (false≢true h.0)
plain (fin true m e) h = let z = minus_zero m e h in record { number = tt; all = sym z; none = z }
plain (fin false m e) h = record { number = tt; all = refl; none = refl }

pub within_plain : (x : Float) (n : ℕ) → Within x n → Plain x
within_plain nan n h = absurd h
within_plain (inf s) n h = absurd h
within_plain (fin true m e) n h = absurd h
within_plain (fin false m e) n h = record { number = tt; all = refl; none = refl }

-- the order of plain numbers is that of their fractions
plain_side : (p a m c d : ℕ) → p ≡ a → m ≡ 0 → p * d + m * c ≡ a * d
plain_side p a m c d e z = ap (λ (k : ℕ). k * d + m * c) e ∙ ap (λ (k : ℕ). a * d + k * c) z ∙ ap (λ (k : ℕ). a * d + k) (zero-mul c) ∙ add-zero (a * d)

module _ (x y : Float) (X : Plain x) (Y : Plain y) where
  left_side : lhs x y ≡ num x * den y
  left_side = plain_side (plus x) (num x) (minus y) (den x) (den y) X.all Y.none

  right_side : rhs x y ≡ num y * den x
  right_side = plain_side (plus y) (num y) (minus x) (den y) (den x) Y.all X.none

  pub lt_plain : lt x y ≡ ltb (num x * den y) (num y * den x)
  lt_plain = lt_nat x y X.number Y.number ∙ ap (λ (k : ℕ). ltb k (rhs x y)) left_side ∙ ap (ltb (num x * den y)) right_side

  pub le_plain : T (le x y) → num x * den y ≤ num y * den x
  le_plain t = le_trans (le_of_eq (sym left_side)) (le_trans (leb→le (lhs x y) (rhs x y) (subst T (le_nat x y X.number Y.number) t)) (le_of_eq right_side))

pub own_value : (x : Float) → FromZero x → HasValue x (sign x) (num x) (den x)
own_value nan h = absurd (false≢true h.0)
own_value (inf s) h = absurd (false≢true h.0)
own_value (fin s m e) h = (refl, refl)

-- the exact sum is not past the side, and no more is the rounded one
-- ---- what No. 2 to 4 leave of a box
pub record AllFromZero (b : CropBox) : Type 0 where
  pub left : FromZero b.left
  pub top : FromZero b.top
  pub width : FromZero b.width
  pub height : FromZero b.height

pub all_from_zero : (w h : ℕ) (b : CropBox) → not_finite_value b ≡ false → negative_extent_value b ≡ false → start_outside_value w h b ≡ false → AllFromZero b
all_from_zero w h b e2 e3 e4 =
    let l = is_finite b.left in
    let t = is_finite b.top in
    let x = is_finite b.width in
    let y = is_finite b.height in
    let four : ((l && t) && x) && y ≡ true = not-false (((l && t) && x) && y) e2 in
    let three : (l && t) && x ≡ true = and_left ((l && t) && x) y four in
    let two : l && t ≡ true = and_left (l && t) x three in
    let a = lt b.left zero64 in
    let c = le (double w) b.left in
    let d = lt b.top zero64 in
    let before : (a || c) || d ≡ false = or_left ((a || c) || d) (le (double h) b.top) e4 in
    record {
      left = (and_left l t two, or_left a c (or_left (a || c) d before));
      top = (and_right l t two, or_right (a || c) d before);
      width = (and_right (l && t) x three, or_left (lt b.width zero64) (lt b.height zero64) e3);
      height = (and_right ((l && t) && x) y four, or_right (lt b.width zero64) (lt b.height zero64) e3);
    }
