-- One colour and one alpha of 16 bits: the product by the fact over the width, the division by the rule over plain numbers. Cited by the functions on colours and
-- pixels, and by the promises. Assumes nothing.
use mathlib.Core.Path.{◌≡◌, refl, sym, subst, ◌∙◌}
use mathlib.Core.Bool.{Bool, true, false}
use Prim.Native.Nat.{ℕ, zero, suc, ◌+◌, ◌*◌, ◌/◌, ◌^◌, ◌≤◌, ◌<◌, min}
use native.Mathlib.Nat.{mul-le-mul, mul-le-mul_right, div-mul-le_self, lt-div-mul-add, le-div_iff_mul-le, lt_of_mul-lt-mul_left}
use native.Mathlib.Omega.{arith}
use lib.Dec.{ltb}
use borrow.Author.Tests.{ltb-true, ltb-false}
use Rattle.integers.specs.Nearest.{Nearest, nearest}
use Rattle.integers.proofs.Width.{nearest_is, nearest_over_width}
use Rattle.colours.proofs.Colours.{multiplied_over_fact, reciprocal_is}
use Rattle.colours_u16.specs.Alpha.{multiplied, reciprocal, divided, Half, Divides}
use Rattle.colours_u16.proofs.Rule.{not_above, not_below, at_least_fact}
use Rattle.colours_u16.proofs.Near.{Near, near_off_half, near_at_half}

-- ---- multiplication

-- the 16-bit rounding, as the code writes it
pub over_65535 : (x : ℕ) → x ≤ 65535 * 65535 → (x + 32768 + (x + 32768) / 65536) / 65536 ≡ nearest x 65535
over_65535 x h = nearest_is x 65535 _ (nearest_over_width 16 x (omega arith) h)

-- no tie can occur: it is the only nearest whole number
pub multiplied_nearest : (c a : ℕ) → c ≤ 65535 → a ≤ 65535 → Nearest (c * a) 65535 (multiplied c a)
multiplied_nearest c a h k = multiplied_over_fact 16 c a (omega arith) h k

-- ---- the reciprocal

-- it misses 65535 x 2^33 / a by a half at most
pub record Reciprocal (a R : ℕ) : Type 0 where
  pub low : R * (2 * a) ≤ 2 * (65535 * 2 ^ 33) + a
  pub high : 2 * (65535 * 2 ^ 33) + a < R * (2 * a) + 2 * a

pub reciprocal_near : (a : ℕ) → 0 < a → Reciprocal a (reciprocal a)
reciprocal_near a h = rw (reciprocal_is 65535 (2 ^ 33) a h) record {
  low = div-mul-le_self (2 * (65535 * 2 ^ 33) + a) (2 * a);
  high = lt-div-mul-add {a = 2 * (65535 * 2 ^ 33) + a} {b = 2 * a} (omega arith);
}

-- ---- division

-- the quotient before the cap
abbrev cut : ℕ → ℕ → ℕ
cut c a = (c * reciprocal a + 2 ^ 32) / 2 ^ 33

-- a colour at its alpha or above gives the largest component
pub from_alpha : (c a : ℕ) → a ≤ 65535 → 0 < a → a ≤ c → divided c a ≡ 65535
from_alpha c a k some l =
    let r = reciprocal_near a some in
    let g : 65535 ≤ cut c a =
    at_least_fact 65535 (2 ^ 33) (2 ^ 32) c a (reciprocal a) (cut c a) refl l (omega arith) r.high (lt-div-mul-add {a = c * reciprocal a + 2 ^ 32} {b = 2 ^ 33} (omega arith)) in
    omega arith

cut_near : (c a : ℕ) → a ≤ 65535 → 0 < a → c ≤ a → Near (c * 65535) a (cut c a)
cut_near c a k some l =
    let r = reciprocal_near a some in
    let g : c ≤ 65535 = omega arith in
    let small : c * a ≤ 65535 * 65535 = mul-le-mul g k in
    let low = div-mul-le_self (c * reciprocal a + 2 ^ 32) (2 ^ 33) in
    let high = lt-div-mul-add {a = c * reciprocal a + 2 ^ 32} {b = 2 ^ 33} (omega arith) in record {
      below = not_above 65535 (2 ^ 33) (2 ^ 32) c a (reciprocal a) (cut c a) refl (omega arith) r.low r.high low high;
      above = not_below 65535 (2 ^ 33) (2 ^ 32) c a (reciprocal a) (cut c a) refl (omega arith) r.low r.high low high;
    }

-- no cap is needed up to alpha
cut_small : (c a : ℕ) → 0 < a → c ≤ a → Near (c * 65535) a (cut c a) → divided c a ≡ cut c a
cut_small c a some l near =
    let m : c * 65535 ≤ a * 65535 = mul-le-mul_right 65535 l in
    let b : cut c a < 65536 = lt_of_mul-lt-mul_left a {m = cut c a} {n = 65536} (omega (arith, near)) in
    omega arith

pub divided_near : (c a : ℕ) → a ≤ 65535 → 0 < a → c ≤ a → Near (c * 65535) a (divided c a)
divided_near c a k some l =
    let near = cut_near c a k some l in
    subst (λ (r : ℕ). Near (c * 65535) a r) (sym (cut_small c a some l near)) near

-- from alpha on, the quotient is 65535 or more
quotient_large : (c a : ℕ) → 0 < a → a ≤ c → 65535 ≤ nearest (c * 65535) a
quotient_large c a some l =
    let m : a * 65535 ≤ c * 65535 = mul-le-mul_right 65535 l in
    (le-div_iff_mul-le {k = 2 * a} {x = 65535} {y = 2 * (c * 65535) + a} (omega arith)).1 (omega arith)

half_large : (c a : ℕ) → 0 < a → a ≤ c → (h : Half (c * 65535) a) → 65535 ≤ h.lower
half_large c a some l h =
    let m : a * 65535 ≤ c * 65535 = mul-le-mul_right 65535 l in
    let g : 65535 < h.lower + 1 = lt_of_mul-lt-mul_left a {m = 65535} {n = h.lower + 1} (omega (arith, h.middle)) in omega arith

pub divides : (c a : ℕ) → a ≤ 65535 → 0 < a → Divides c a
divides c a k some = pick (ltb c a) refl
  where
    within : c ≤ a → Near (c * 65535) a (divided c a)
    within l = divided_near c a k some l

    capped : divided c a ≤ 65535
    capped = omega arith

    pick : (b : Bool) → ltb c a ≡ b → Divides c a
    pick true h =
        let l : c < a = ltb-true c a h in record {
          nearest_off_halves = (λ off. let e = nearest_is (c * 65535) a (divided c a) (near_off_half (c * 65535) a (divided c a) some (within (omega arith)) off) in omega arith);
          alone = (λ off g. near_off_half (c * 65535) a (divided c a) some (within g) off);
          neighbour = (λ half. let n = near_at_half (c * 65535) a (divided c a) some (within (omega arith)) half in (omega arith, omega arith));
        }
    pick false h =
        let l : a ≤ c = ltb-false c a h in
        let e = from_alpha c a k some l in record {
          nearest_off_halves = (λ off. omega (arith, e, quotient_large c a some l));
          alone = (λ off g. near_off_half (c * 65535) a (divided c a) some (within g) off);
          neighbour = (λ half. (omega arith, omega (arith, e, half_large c a some l half)));
        }

-- a colour held to its alpha divides as itself, and needs no cap
pub held : (c a : ℕ) → a ≤ 65535 → (min c a * reciprocal a + 2 ^ 32) / 2 ^ 33 ≡ divided c a
held c zero k = omega arith
held c (suc b) k = pick (ltb c (suc b)) refl
  where
    pick : (t : Bool) → ltb c (suc b) ≡ t → (min c (suc b) * reciprocal (suc b) + 2 ^ 32) / 2 ^ 33 ≡ divided c (suc b)
    pick true h =
        let l : c ≤ suc b = omega (arith, ltb-true c (suc b) h) in
        let e : min c (suc b) ≡ c = omega arith in
        rw e (sym (cut_small c (suc b) (omega arith) l (cut_near c (suc b) k (omega arith) l)))
    pick false h =
        let l : suc b ≤ c = ltb-false c (suc b) h in
        let e : min c (suc b) ≡ suc b = omega arith in
        let g : suc b ≤ suc b = omega arith in
        rw e (sym (cut_small (suc b) (suc b) (omega arith) g (cut_near (suc b) (suc b) k (omega arith) g)) ∙ from_alpha (suc b) (suc b) k (omega arith) g ∙ sym (from_alpha c (suc b) k (omega arith) l))

-- held to its alpha, the product and the half together stay far below 2^64
pub held_fits : (c a : ℕ) → a ≤ 65535 → c ≤ a → c * reciprocal a + 2 ^ 32 < 2 ^ 50
held_fits c zero k l = let e : c ≡ 0 = omega arith in rw e (omega arith)
held_fits c (suc b) k l =
    let r = reciprocal_near (suc b) (omega arith) in
    let m : c * reciprocal (suc b) ≤ suc b * reciprocal (suc b) = mul-le-mul_right (reciprocal (suc b)) l in
    omega (arith, r.low)
