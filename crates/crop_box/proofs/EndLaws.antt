-- The end of a crop against the side, with no rounding: what the larger of two numbers leaves of the side, as a double, is less than the smaller exactly where
-- their sum is past the side (`left_over`). And the builder's far edge, the rounded sum, is not past a side that the exact one is not past (`rounded_end`).
-- Cited by the proof of `ends_past` and by the builder's CropLaws. Assumes nothing.
use mathlib.Core.Path.{◌≡◌, refl, sym, ap, ◌∙◌, subst}
use mathlib.Core.Logic.{◌⊎◌, inl, inr}
use mathlib.Core.Bool.{Bool, true, false, false≢true}
use Prim.Native.Nat.{ℕ, ◌+◌, ◌-◌, ◌*◌, ◌^◌, ◌≤◌, ◌<◌, zero-le}
use native.Mathlib.Nat.{le_trans, le_of_eq, le_of_lt, add_comm, not-le_of_lt, zero-lt-suc, zero-mul, mul-one, mul_comm, mul_assoc, mul-pos, mul-le-mul_right, le_of_mul-le-mul_right, lt_of_mul-lt-mul_right, sub-le}
use native.Mathlib.Omega.{arith}
use lib.IntN.{ℤ, pos, neg_ℤ, ◌+ℤ◌, ◌*ℤ◌, pos-*ℤ-pos, pos-+ℤ-pos}
use lib.Signed.{lt_z}
use lib.Dec.{T, ltb}
use borrow.Author.Tests.{ltb-true, ltb-false, lt-ltb, le-ltb}
use lib.Ieee.{Float, nan, inf, fin, binary64, up, down, round, add, sub, lt, fits}
use lib.Ieee.Fits.{down_pos}
use lib.Ieee.Exact.{HasValue}
use lib.Ieee.Back.{round_whole}
use lib.Ieee.Order.{round_mono}
use lib.Ieee.Positive.{num, den, den_pos}
use Rattle.floats.specs.Within.{AtMost}
use Rattle.floats.specs.Doubles.{double}
use Rattle.floats.proofs.Value.{lt_values, add_values, sub_mul}
use Rattle.floats.proofs.Within.{round_unsigned, round_within, unlike_signs}
use Rattle.floats.proofs.AtMost.{sum_at}
use Rattle.floats.proofs.Integers.{whole_val}
use Rattle.crop_box.specs.End.{numerator, ends_past_value, FromZero}
use Rattle.crop_box.proofs.FromZero.{minus_zero, sign, plain, lt_plain, own_value}
use Rattle.crop_box.proofs.EndRest.{rest, exact_rest, unit_value, above, below_zero, over, not_passed}

numerator_is : (x : Float) → FromZero x → numerator x ≡ pos (num x)
numerator_is nan h = refl
numerator_is (inf s) h = refl
numerator_is (fin true m e) h = let z = minus_zero m e h in ap (λ (n : ℕ). neg_ℤ (pos n)) z ∙ ap pos (sym z)
numerator_is (fin false m e) h = refl

-- the definition's test, on natural numbers
by_sizes : (x y : Float) (n : ℕ) → FromZero x → FromZero y → ends_past_value x y n ≡ ltb (n * (den x * den y)) (num x * den y + num y * den x)
by_sizes x y n X Y =
    ap (λ (a : ℤ). lt_z (pos n *ℤ pos (den x * den y)) (a *ℤ pos (den y) +ℤ numerator y *ℤ pos (den x))) (numerator_is x X)
    ∙ ap (λ (b : ℤ). lt_z (pos n *ℤ pos (den x * den y)) (pos (num x) *ℤ pos (den y) +ℤ b *ℤ pos (den x))) (numerator_is y Y)
    ∙ ap (λ (c : ℤ). lt_z c (pos (num x) *ℤ pos (den y) +ℤ pos (num y) *ℤ pos (den x))) (pos-*ℤ-pos n (den x * den y))
    ∙ ap (λ (a : ℤ). lt_z (pos (n * (den x * den y))) (a +ℤ pos (num y) *ℤ pos (den x))) (pos-*ℤ-pos (num x) (den y))
    ∙ ap (λ (b : ℤ). lt_z (pos (n * (den x * den y))) (pos (num x * den y) +ℤ b)) (pos-*ℤ-pos (num y) (den x))
    ∙ ap (lt_z (pos (n * (den x * den y)))) (pos-+ℤ-pos (num x * den y) (num y * den x))

-- ---- the sum a / c + b / q against n, moved to the other side
moved : (n a c b q : ℕ) → 0 < q → a * q + b * c ≤ n * (c * q) → (a ≤ n * c) × (b * c ≤ (n * c - a) * q)
moved n a c b q Q h =
    let e : n * c * q ≡ n * (c * q) = mul_assoc n c q in
    let l : a * q ≤ n * c * q = omega arith in
    let d : (n * c - a) * q ≡ n * c * q - a * q = sub_mul (n * c) a q in
    (le_of_mul-le-mul_right l Q, omega arith)

moved_over : (n a c b q : ℕ) → 0 < q → n * (c * q) < a * q + b * c → b * c ≤ a * q → (n * c < 2 * a) × (((a ≤ n * c) × ((n * c - a) * q < b * c)) ⊎ (n * c < a))
moved_over n a c b q Q h k =
    let e : n * c * q ≡ n * (c * q) = mul_assoc n c q in
    let t : 2 * a * q ≡ 2 * (a * q) = mul_assoc 2 a q in
    let l : n * c * q < 2 * a * q = omega arith in
    let d : (n * c - a) * q ≡ n * c * q - a * q = sub_mul (n * c) a q in
    (lt_of_mul-lt-mul_right q l, go (ltb (n * c) a) refl)
  where
    go : (t : Bool) → ltb (n * c) a ≡ t → ((a ≤ n * c) × ((n * c - a) * q < b * c)) ⊎ (n * c < a)
    go true e = inr (ltb-true (n * c) a e)
    go false e =
        let f : a ≤ n * c = ltb-false (n * c) a e in
        let l : a * q ≤ n * c * q = mul-le-mul_right q f in
        let g : n * c * q ≡ n * (c * q) = mul_assoc n c q in
        let d : (n * c - a) * q ≡ n * c * q - a * q = sub_mul (n * c) a q in
        inl (f, omega arith)

module _ (n : ℕ) (x y : Float) (M : n ≤ 2 ^ 53) (tx : T (fits binary64 x)) (ty : T (fits binary64 y)) (X : FromZero x) (Y : FromZero y) where
  inside : num x * den y + num y * den x ≤ n * (den x * den y) → lt (sub binary64 (double n) x) y ≡ false
  inside h =
      let m = moved n (num x) (den x) (num y) (den y) (den_pos y) h in
      ap (λ (z : Float). lt z y) (rest n x M X ∙ unlike_signs binary64 (n * den x) (num x) (den x) m.0)
      ∙ not_passed y n (n * den x - num x) (den x) (den_pos x) ty Y (round_within binary64 (n * den x - num x) (den x) n (den_pos x) M (sub-le (n * den x) (num x))) m.1

  past : n * (den x * den y) < num x * den y + num y * den x → num y * den x ≤ num x * den y → lt (sub binary64 (double n) x) y ≡ true
  past h k = go (moved_over n (num x) (den x) (num y) (den y) (den_pos y) h k).1
    where
      more : (a b : ℕ) → a < b → 1 ≤ b - a
      more a b h = omega arith

      up_from : (a b : ℕ) → a < b → 0 < b
      up_from a b h = omega arith

      by_value : (y : Float) → FromZero y → (n * den x - num x) * den y < num y * den x → HasValue (round binary64 false (n * den x - num x) (den x)) false (n * den x - num x) (den x) → lt (round binary64 false (n * den x - num x) (den x)) y ≡ true
      by_value nan Y l v = absurd (false≢true Y.0)
      by_value (inf s) Y l v = absurd (false≢true Y.0)
      by_value (fin true m e) Y l v = absurd (not-le_of_lt l (le_trans (le_of_eq (ap (λ (z : ℕ). z * den x) (minus_zero m e Y) ∙ zero-mul (den x))) zero-le))
      by_value (fin false m e) Y l v = lt_values _ (fin false m e) false false (n * den x - num x) (den x) (m * up e) (down e) (den_pos x) (down_pos e) v (refl, refl) ∙ lt-ltb _ _ l

      go : ((num x ≤ n * den x) × ((n * den x - num x) * den y < num y * den x)) ⊎ (n * den x < num x) → lt (sub binary64 (double n) x) y ≡ true
      go (inr g) =
          let w = round binary64 false (num x - n * den x) (den x) in
          ap (λ (z : Float). lt z y) (rest n x M X ∙ over (n * den x) (num x) (den x) g)
          ∙ below_zero w y
          (above (round binary64 false 1 (den x)) w (den x) (unit_value x tx (up_from (n * den x) (num x) g)) (round_unsigned binary64 (num x - n * den x) (den x))
          (round_mono binary64 1 (den x) (num x - n * den x) (den x) (den_pos x) (den_pos x) (mul-le-mul_right (den x) (more (n * den x) (num x) g))))
          Y
      go (inl g) =
          ap (λ (z : Float). lt z y) (rest n x M X ∙ unlike_signs binary64 (n * den x) (num x) (den x) g.0)
          ∙ by_value y Y g.1 (exact_rest n x M tx X (moved_over n (num x) (den x) (num y) (den y) (den_pos y) h k).0)

  -- for x the larger
  pub left_over : lt x y ≡ false → lt (sub binary64 (double n) x) y ≡ ends_past_value x y n
  left_over l = go (ltb (n * (den x * den y)) (num x * den y + num y * den x)) refl ∙ sym (by_sizes x y n X Y)
    where
      go : (t : Bool) → ltb (n * (den x * den y)) (num x * den y + num y * den x) ≡ t → lt (sub binary64 (double n) x) y ≡ ltb (n * (den x * den y)) (num x * den y + num y * den x)
      go true e = past (ltb-true _ _ e) (ltb-false _ _ (sym (lt_plain x y (plain x X) (plain y Y)) ∙ l)) ∙ sym e
      go false e = inside (ltb-false _ _ e) ∙ sym e

-- the sum in the other order is the same
pub ends_turned : (x y : Float) (n : ℕ) → FromZero x → FromZero y → ends_past_value y x n ≡ ends_past_value x y n
ends_turned x y n X Y =
    by_sizes y x n Y X ∙ ap (λ (k : ℕ). ltb (n * k) (num y * den x + num x * den y)) (mul_comm (den y) (den x))
    ∙ ap (ltb (n * (den x * den y))) (add_comm (num y * den x) (num x * den y)) ∙ sym (by_sizes x y n X Y)

pub lt_not : (x y : Float) → FromZero x → FromZero y → lt x y ≡ true → lt y x ≡ false
lt_not x y X Y h = lt_plain y x (plain y Y) (plain x X) ∙ le-ltb _ _ (le_of_lt (ltb-true (num x * den y) (num y * den x) (sym (lt_plain x y (plain x X) (plain y Y)) ∙ h)))

-- ---- the builder's far edge
at_most_not_past : (z : Float) (n : ℕ) → n ≤ 2 ^ 53 → AtMost z n → lt (double n) z ≡ false
at_most_not_past nan n M h = absurd h
at_most_not_past (inf s) n M h = absurd h
at_most_not_past (fin false m e) n M h =
    lt_values (double n) (fin false m e) false false n 1 (m * up e) (down e) (zero-lt-suc 0) (down_pos e) (whole_val n M) (refl, refl) ∙ le-ltb _ _ (le_trans (le_of_eq (mul-one (m * up e))) h)
at_most_not_past (fin true m e) n M h = lt_values (double n) (fin true m e) false true n 1 (m * up e) (down e) (zero-lt-suc 0) (down_pos e) (whole_val n M) (refl, refl)

pub rounded_end : (x y : Float) (n : ℕ) → n ≤ 2 ^ 53 → FromZero x → FromZero y → ends_past_value x y n ≡ false → lt (double n) (add binary64 x y) ≡ false
rounded_end x y n M X Y h =
    at_most_not_past (add binary64 x y) n M
    (subst (λ (z : Float). AtMost z n) (sym (add_values binary64 x y (sign x) (sign y) (num x) (den x) (num y) (den y) (den_pos x) (den_pos y) (own_value x X) (own_value y Y)))
    (sum_at binary64 (sign x) (sign y) (num x * den y) (num y * den x) (den x * den y) n (mul-pos (den_pos x) (den_pos y)) (round_whole binary64 false n M) (ltb-false _ _ (sym (by_sizes x y n X Y) ∙ h))))
