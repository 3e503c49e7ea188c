-- A double that a type of h bits and a sign holds, cut to an integer: the library's truncation to 64 bits takes it, and gives what the cast to the type
-- itself would. Cited by the slots of both stores. Assumes nothing.
use Rattle.std.proofs.Common.{◌≡◌, ℕ, suc, ◌+◌, ◌-◌, ◌*◌, ◌/◌, ◌^◌, ◌<◌, ◌≤◌, min, Bool, true, false, not, ◌&&◌, T, ltb, ℤ, pos, neg_ℤ, sym, refl, ap, subst, le_of_eq, lt_of_lt_of_le, le_of_suc-le-suc, le-add_right, lt_of_le_of_lt, zero-lt-suc, suc-mul, div-lt_iff_lt-mul, mul-lt-mul_of_pos_right, mul-pos, mul-one, le-add_left, arith, ltb→lt, lt→ltb, nltb→le, pow_pos, pow_mono}
use lib.Pow.{pow-lt}
use lib.Ieee.{Float, nan, inf, fin, lt, le, neg, to_signed, up, down}
use lib.Ieee.Exact.{HasValue}
use lib.Ieee.Fits.{down_pos}
use Rattle.lists.proofs.BoolLaws.{never, or_first}
use Rattle.floats.proofs.Value.{lt_values, neg_value}
use Rattle.floats.proofs.Integers.{whole_val}
use Rattle.windows.specs.declared.Store.{Store}
use Rattle.weight_precision.specs.Precision.{power}
use Rattle.weight_precision.specs.Weights.{holds}

pub both : (a b : Bool) → a && b ≡ true → T a × T b
both true true h = (tt, tt)
both true false h = never (sym h)
both false b h = never (sym h)

-- a slot in use that does not leave its type holds a number of the type
pub in_type : (u b : Bool) → u && not b ≡ false → u ≡ true → b ≡ true
in_type true true h e = refl
in_type true false h e = never h
in_type false b h e = never (sym e)

-- an infinity beside a number
pub below_all : (y : Float) (t : Bool) (b d : ℕ) → HasValue y t b d → lt (inf true) y ≡ true
unfolding lt
below_all nan t b d v = absurd v
below_all (inf s) t b d v = absurd v
below_all (fin s m e) t b d v = refl

pub above_all : (y : Float) (t : Bool) (b d : ℕ) → HasValue y t b d → lt (inf false) y ≡ false
unfolding lt
above_all nan t b d v = absurd v
above_all (inf s) t b d v = absurd v
above_all (fin s m e) t b d v = refl

-- the quotient, and what is cut off above it
div_le : (a c n : ℕ) → 0 < c → a ≤ n * c → a / c ≤ n
div_le a c n C l = let s : suc n * c ≡ n * c + c = suc-mul n c in le_of_suc-le-suc ((div-lt_iff_lt-mul C).1 (omega arith))

caps : (q a b : ℕ) → q ≤ a → q ≤ b → min q a ≡ min q b
caps q a b l k = omega arith

-- what both truncations need of a number x of the type
pub record Cut (h : ℕ) (x : Float) : Type 0 where
  pub low : T (le (fin true 1 (pos 63)) x)
  pub high : T (lt x (fin false 1 (pos 63)))
  pub same : to_signed 63 x ≡ to_signed h x

module _ (h : ℕ) (small : h ≤ 53) where
  power_value : HasValue (power h) false (2 ^ h) 1
  power_value = whole_val (2 ^ h) (pow_mono {i = h} {j = 53} small)

  minus_value : HasValue (neg (power h)) true (2 ^ h) 1
  minus_value = neg_value (power h) false (2 ^ h) 1 power_value

  not_under : (m : ℕ) (e : ℤ) → T (not (lt (fin true m e) (neg (power h)))) → m * up e ≤ 2 ^ h * down e
  not_under m e t =
      let v = lt_values (fin true m e) (neg (power h)) true true (m * up e) (down e) (2 ^ h) 1 (down_pos e) (zero-lt-suc 0) (refl, refl) minus_value in
      subst (λ (z : ℕ). z ≤ 2 ^ h * down e) (mul-one (m * up e)) (nltb→le (2 ^ h * down e) (m * up e * 1) (subst (λ (z : Bool). T (not z)) v t))

  under : (m : ℕ) (e : ℤ) → T (lt (fin false m e) (power h)) → m * up e < 2 ^ h * down e
  under m e t =
      let v = lt_values (fin false m e) (power h) false false (m * up e) (down e) (2 ^ h) 1 (down_pos e) (zero-lt-suc 0) (refl, refl) power_value in
      subst (λ (z : ℕ). z < 2 ^ h * down e) (mul-one (m * up e)) (ltb→lt (m * up e * 1) (2 ^ h * down e) (subst T v t))

  wider : 2 ^ h < 2 ^ 63
  wider = pow-lt {i = h} {j = 63} (lt_of_le_of_lt small (omega arith))

  -- a size up to 2^h is below 2^63
  wide : (a c : ℕ) → 0 < c → a ≤ 2 ^ h * c → a * 1 < 1 * 2 ^ 63 * c
  wide a c C l = lt_of_le_of_lt (le_of_eq (mul-one a)) (lt_of_le_of_lt l (mul-lt-mul_of_pos_right wider C))

  negative : (m : ℕ) (e : ℤ) → m * up e ≤ 2 ^ h * down e → Cut h (fin true m e)
  unfolding le lt to_signed
  negative m e l =
      let q : m * up e / down e ≤ 2 ^ h = div_le (m * up e) (down e) (2 ^ h) (down_pos e) l in
      record {
        low = or_first (ltb (m * up e * 1) (1 * 2 ^ 63 * down e)) _ (lt→ltb (m * up e * 1) (1 * 2 ^ 63 * down e) (wide (m * up e) (down e) (down_pos e) l));
        high = lt→ltb 0 (m * up e * 1 + 1 * 2 ^ 63 * down e) (lt_of_lt_of_le (mul-pos (pow_pos 63) (down_pos e)) (le-add_left (1 * 2 ^ 63 * down e) (m * up e * 1)));
        same = ap (λ (n : ℕ). neg_ℤ (pos n)) (caps (m * up e / down e) (2 ^ 63) (2 ^ h) (omega (arith, wider)) q);
      }

  positive : (m : ℕ) (e : ℤ) → m * up e < 2 ^ h * down e → Cut h (fin false m e)
  unfolding le lt to_signed
  positive m e l =
      let q : m * up e / down e < 2 ^ h = (div-lt_iff_lt-mul (down_pos e)).1 l in
      record {
        low = or_first (ltb 0 (1 * 2 ^ 63 * down e + m * up e * 1)) _ (lt→ltb 0 (1 * 2 ^ 63 * down e + m * up e * 1) (lt_of_lt_of_le (mul-pos (pow_pos 63) (down_pos e)) (le-add_right (1 * 2 ^ 63 * down e) (m * up e * 1))));
        high = lt→ltb (m * up e * 1) (1 * 2 ^ 63 * down e) (wide (m * up e) (down e) (down_pos e) (omega arith));
        same = ap pos (caps (m * up e / down e) (2 ^ 63 - 1) (2 ^ h - 1) (omega (arith, wider)) (omega arith));
      }

  within : (x : Float) → not (lt x (neg (power h))) && lt x (power h) ≡ true → Cut h x
  unfolding lt
  within nan t = never (sym t)
  within (inf true) t = never (rw (below_all (neg (power h)) true (2 ^ h) 1 minus_value) at (sym t))
  within (inf false) t = absurd (subst T (above_all (power h) false (2 ^ h) 1 power_value) (both (not (lt (inf false) (neg (power h)))) (lt (inf false) (power h)) t).1)
  within (fin true m e) t = negative m e (not_under m e (both (not (lt (fin true m e) (neg (power h)))) (lt (fin true m e) (power h)) t).0)
  within (fin false m e) t = positive m e (under m e (both (not (lt (fin false m e) (neg (power h)))) (lt (fin false m e) (power h)) t).1)

-- a number that a store holds
pub held : (store : Store) → store.limit ≤ 53 → (x : Float) → holds store x ≡ true → Cut store.limit x
held store = within store.limit
