-- Rounding to the nearest multiple, a tie to the even one, seen from an even multiple above: `closest_sub`. Cited by `AddAway`. Assumes nothing.
use mathlib.Core.Path.{◌≡◌, sym, ap, ◌∙◌, subst}
use Prim.Native.Nat.{ℕ, suc, ◌+◌, ◌-◌, ◌*◌, ◌/◌, ◌%◌, ◌≤◌, ◌<◌, compare, Ordering}
use native.Mathlib.Nat.{le_trans, one-mul, lt_of_mul-lt-mul_right, le_of_mul-le-mul_right, add-mul, div-add-mod', mod-lt, le-add_right}
use native.Mathlib.Omega.{arith}
use mathlib.Core.Bool.{Bool, true, false, not}
use lib.Dec.{T, ltb, ltb→lt, nltb→le}
use lib.Arith.{digits_div, digits_mod}
use lib.Ieee.{nearest}
use lib.Ieee.Nearest.{closest}
use Rattle.floats.proofs.Digits.{compare_lt, compare_eq, compare_gt}

near : (q r b : ℕ) → r < b → closest (q * b + r) b ≡ nearest q (compare (r * 2) b)
near q r b h = ap (λ (z : ℕ). nearest z (compare ((q * b + r) % b * 2) b)) (digits_div q h) ∙ ap (λ (z : ℕ). nearest q (compare (z * 2) b)) (digits_mod q h)

near_lt : (q r b : ℕ) → r < b → r * 2 < b → closest (q * b + r) b ≡ q
near_lt q r b h l = near q r b h ∙ ap (λ (o : Ordering). nearest q o) (compare_lt (r * 2) b l)

near_eq : (q r b : ℕ) → r < b → r * 2 ≡ b → closest (q * b + r) b ≡ q + q % 2
near_eq q r b h l = near q r b h ∙ ap (λ (o : Ordering). nearest q o) (compare_eq (r * 2) b l)

near_gt : (q r b : ℕ) → r < b → b < r * 2 → closest (q * b + r) b ≡ suc q
near_gt q r b h l = near q r b h ∙ ap (λ (o : Ordering). nearest q o) (compare_gt (r * 2) b l)

data Three (a b : ℕ) : Type 0 where
  less : a < b → Three a b
  same : a ≡ b → Three a b
  more : b < a → Three a b

three : (a b : ℕ) → Three a b
three a b = go (ltb a b) (ltb b a) (ltb→lt a b) (nltb→le a b) (ltb→lt b a) (nltb→le b a)
  where
    both : (a b : ℕ) → b ≤ a → a ≤ b → a ≡ b
    both a b p q = omega arith

    go : (x y : Bool) → (T x → a < b) → (T (not x) → b ≤ a) → (T y → b < a) → (T (not y) → a ≤ b) → Three a b
    go true y p q r s = less (p tt)
    go false true p q r s = more (r tt)
    go false false p q r s = same (both a b (q tt) (s tt))

-- w multiples less a, where a is q whole ones and r
from_above : (k q r b w : ℕ) → 0 < r → r < b → w ≡ k + q + 1 → w % 2 ≡ 0 → closest (w * b - (q * b + r)) b ≡ w - closest (q * b + r) b
from_above k q r b w R h e p = ap (λ (z : ℕ). closest z b) (split w (w * b) (k * b) (q * b) (ap (λ (z : ℕ). z * b) e ∙ add-mul (k + q) 1 b ∙ ap (λ (z : ℕ). z + 1 * b) (add-mul k q b) ∙ ap (λ (z : ℕ). k * b + q * b + z) (one-mul b))) ∙ go (three (r * 2) b)
  where
    split : (w W A B : ℕ) → W ≡ A + B + b → W - (B + r) ≡ A + (b - r)
    split w W A B e = omega arith

    cut : b - r < b
    cut = omega arith

    go : Three (r * 2) b → closest (k * b + (b - r)) b ≡ w - closest (q * b + r) b
    go (less l) = near_gt k (b - r) b cut (omega arith) ∙ t1 ∙ ap (λ (z : ℕ). w - z) (sym (near_lt q r b h l))
      where
        t1 : suc k ≡ w - q
        t1 = omega arith
    go (same l) = near_eq k (b - r) b cut (omega arith) ∙ t1 ∙ ap (λ (z : ℕ). w - z) (sym (near_eq q r b h l))
      where
        t1 : k + k % 2 ≡ w - (q + q % 2)
        t1 = omega arith
    go (more l) = near_lt k (b - r) b cut (omega arith) ∙ t1 ∙ ap (λ (z : ℕ). w - z) (sym (near_gt q r b h l))
      where
        t1 : k ≡ w - suc q
        t1 = omega arith

pub closest_sub : (w a b : ℕ) → 0 < b → w % 2 ≡ 0 → a ≤ w * b → closest (w * b - a) b ≡ w - closest a b
closest_sub w a b B p l = subst (λ (z : ℕ). closest (w * b - z) b ≡ w - closest z b) (div-add-mod' a b) (go (three 0 (a % b)))
  where
    q : ℕ
    q = a / b

    r : ℕ
    r = a % b

    h : r < b
    h = mod-lt a B

    under : q * b + r ≤ w * b
    under = subst (λ (z : ℕ). z ≤ w * b) (sym (div-add-mod' a b)) l

    le : q ≤ w
    le = le_of_mul-le-mul_right (le_trans (le-add_right (q * b) r) under) B

    not_top : 0 < r → q < w
    not_top R = lt_of_mul-lt-mul_right b (lower (q * b) (w * b) R under)
      where
        lower : (Q W : ℕ) → 0 < r → Q + r ≤ W → Q < W
        lower Q W R u = omega arith

    even : r ≡ 0 → closest (w * b - (q * b + r)) b ≡ w - closest (q * b + r) b
    even z = ap (λ (y : ℕ). closest y b) whole ∙ near_lt (w - q) 0 b B B ∙ ap (λ (y : ℕ). w - y) (sym (near_lt q r b h (twice r z)))
      where
        twice : (r : ℕ) → r ≡ 0 → r * 2 < b
        twice r z = omega arith

        shares : (w - q) * b + q * b ≡ w * b
        shares = sym (add-mul (w - q) q b) ∙ ap (λ (y : ℕ). y * b) (back w q le)
          where
            back : (w q : ℕ) → q ≤ w → w - q + q ≡ w
            back w q l = omega arith

        whole : w * b - (q * b + r) ≡ (w - q) * b + 0
        whole = go (w * b) (q * b) ((w - q) * b) z shares
          where
            go : (W Q D : ℕ) → r ≡ 0 → D + Q ≡ W → W - (Q + r) ≡ D + 0
            go W Q D z s = omega arith

    go : Three 0 r → closest (w * b - (q * b + r)) b ≡ w - closest (q * b + r) b
    go (less R) = from_above (w - q - 1) q r b w R h (split w q (not_top R)) p
      where
        split : (w q : ℕ) → q < w → w ≡ w - q - 1 + q + 1
        split w q l = omega arith
    go (same z) = even (sym z)
    go (more l) = absurd (never r l)
      where
        never : (r : ℕ) → r < 0 → ⊥
        never r l = omega arith
