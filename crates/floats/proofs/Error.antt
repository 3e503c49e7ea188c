-- How far rounding moves a number: in the normal range by at most one part in 2^prec, and not at all where the number is multiplied by a power of two and
-- does not overflow. Cited by the Box promise. Assumes nothing.
use mathlib.Core.Path.{◌≡◌, sym, ap, ◌∙◌, subst}
use mathlib.Core.Bool.{Bool, not}
use Prim.Native.Nat.{ℕ, zero, suc, ◌+◌, ◌-◌, ◌*◌, ◌/◌, ◌%◌, ◌^◌, ◌≤◌, ◌<◌, compare, Ordering}
use native.Mathlib.Nat.{le_trans, le_of_eq, lt_of_lt_of_le, lt_of_le_of_lt, zero-lt-suc, mul-one, mul_comm, mul_assoc, mul_left_comm, mul_right_comm, add-mul, mul-add, sub-add_cancel, suc-mul, mul-le-mul_left, mul-lt-mul_of_pos_right, lt_of_mul-lt-mul_right, mul-pos, div-add-mod', mod-lt, le-div_iff_mul-le}
use native.Mathlib.Omega.{arith}
use lib.IntN.{ℤ, pos, negsuc}
use lib.Dec.{T, is_le, compare_is_eq, leb→le, nleb→lt, eqb→eq}
use lib.Arith.{lt_of_le-ne}
use lib.Pow.{pow-add, pow_pos}
use lib.Ieee.{Format, prec, emax, low, up, down, size, nearest, round, fin, fits}
use lib.Ieee.Digits.{size_reaches}
use lib.Ieee.Fits.{eq→eqb, two}
use lib.Ieee.Exact.{HasValue, round_exact}
use lib.Ieee.Nearest.{closest}
use lib.Ieee.Order.{drop, kept}
use lib.Ieee.Scale.{grid}
use Rattle.floats.proofs.Pattern.{two_hid}
use Rattle.floats.proofs.Laws.{fits_digits, pow_le_cancel}

-- ---- the nearest whole number is within a half
abbrev Cmp : Ordering → ℕ → ℕ → Type 0
Cmp Ordering.lt a b = a < b
Cmp Ordering.eq a b = a ≡ b
Cmp Ordering.gt a b = b < a

cmp : (a b : ℕ) → Cmp (compare a b) a b
cmp a b = go (compare a b) (leb→le a b) (nleb→lt a b) (eqb→eq a b) (λ (e : a ≡ b). eq→eqb e)
  where
    go : (o : Ordering) → (T (is_le o) → a ≤ b) → (T (not (is_le o)) → b < a) → (T (compare_is_eq o) → a ≡ b) → (a ≡ b → T (compare_is_eq o)) → Cmp o a b
    go Ordering.lt h k e n = lt_of_le-ne (h tt) n
    go Ordering.eq h k e n = e tt
    go Ordering.gt h k e n = k tt

near_go : (q r b : ℕ) (o : Ordering) → Cmp o (r * 2) b → r < b → (2 * (nearest q o * b) ≤ 2 * (q * b + r) + b) × (2 * (q * b + r) ≤ 2 * (nearest q o * b) + b)
near_go q r b Ordering.lt c h = omega arith
near_go q r b Ordering.eq c h = tie (q % 2) (mod-lt q (zero-lt-suc 1)) (add-mul q (q % 2) b)
  where
    flat : (X Y r b : ℕ) → Y ≡ X + 0 * b → r * 2 ≡ b → (2 * Y ≤ 2 * (X + r) + b) × (2 * (X + r) ≤ 2 * Y + b)
    flat X Y r b e c = omega arith

    one_more : (X Y r b : ℕ) → Y ≡ X + 1 * b → r * 2 ≡ b → (2 * Y ≤ 2 * (X + r) + b) × (2 * (X + r) ≤ 2 * Y + b)
    one_more X Y r b e c = omega arith

    no : (t : ℕ) → suc (suc t) < 2 → ⊥
    no t h = omega arith

    tie : (t : ℕ) → t < 2 → (q + t) * b ≡ q * b + t * b → (2 * ((q + t) * b) ≤ 2 * (q * b + r) + b) × (2 * (q * b + r) ≤ 2 * ((q + t) * b) + b)
    tie zero l e = flat (q * b) ((q + 0) * b) r b e c
    tie (suc zero) l e = one_more (q * b) ((q + 1) * b) r b e c
    tie (suc (suc t)) l e = absurd (no t l)
near_go q r b Ordering.gt c h = let e : suc q * b ≡ q * b + b = suc-mul q b in omega arith

pub closest_near : (a b : ℕ) → 0 < b → (2 * (closest a b * b) ≤ 2 * a + b) × (2 * a ≤ 2 * (closest a b * b) + b)
closest_near a b B =
    subst (λ (z : ℕ). (2 * (closest a b * b) ≤ 2 * z + b) × (2 * z ≤ 2 * (closest a b * b) + b)) (div-add-mod' a b) (near_go (a / b) (a % b) b (compare (a % b * 2) b) (cmp (a % b * 2) b) (mod-lt a B))

-- ---- the relative error of `round` in the normal range: |v * c - a| * 2 ^ prec ≤ a, with v = grid / 2 ^ low
module _ (f : Format) (a c : ℕ) (C : 0 < c) (N : prec f ≤ size (a * 2 ^ low f / c)) where
  lead : 2 ^ (prec f - 1) * (c * 2 ^ drop (prec f) (a * 2 ^ low f) c) ≤ a * 2 ^ low f
  lead =
      let k = drop (prec f) (a * 2 ^ low f) c in
      le_trans (le_of_eq (mul_left_comm (2 ^ (prec f - 1)) c (2 ^ k) ∙ ap (λ (z : ℕ). c * z) (sym (pow-add 2 (prec f - 1) k)) ∙ mul_comm c (2 ^ (prec f - 1 + k))))
      ((le-div_iff_mul-le C).0 (size_reaches (a * 2 ^ low f / c) (prec f - 1 + k) (in_use (size (a * 2 ^ low f / c)) (prec f) (two f) N)))
    where
      in_use : (z p : ℕ) → 2 ≤ p → p ≤ z → p - 1 + (z - p) < z
      in_use z p h l = omega arith

  abbrev unit : ℕ
  unit = c * 2 ^ drop (prec f) (a * 2 ^ low f) c

  grid_is : grid f a c * c ≡ kept (prec f) (a * 2 ^ low f) c * unit
  grid_is = mul_assoc (kept (prec f) (a * 2 ^ low f) c) (2 ^ drop (prec f) (a * 2 ^ low f) c) c ∙ ap (λ (z : ℕ). kept (prec f) (a * 2 ^ low f) c * z) (mul_comm (2 ^ drop (prec f) (a * 2 ^ low f) c) c)

  pub round_error : (grid f a c * c * 2 ^ prec f ≤ a * 2 ^ low f * 2 ^ prec f + a * 2 ^ low f) × (a * 2 ^ low f * 2 ^ prec f ≤ grid f a c * c * 2 ^ prec f + a * 2 ^ low f)
  round_error =
      let h = closest_near (a * 2 ^ low f) unit (mul-pos C (pow_pos (drop (prec f) (a * 2 ^ low f) c))) in
      go (grid f a c * c) (kept (prec f) (a * 2 ^ low f) c * unit) (a * 2 ^ low f) unit (2 ^ (prec f - 1)) (2 ^ prec f) (two_hid f) grid_is h.0 h.1 lead
    where
      turn : (Z P H : ℕ) → P ≡ 2 * H → Z * P ≡ H * (2 * Z)
      turn Z P H e = ap (λ (z : ℕ). Z * z) e ∙ simp (mul_comm, mul_left_comm)

      go : (G X A U H P : ℕ) → P ≡ 2 * H → G ≡ X → 2 * X ≤ 2 * A + U → 2 * A ≤ 2 * X + U → H * U ≤ A → (G * P ≤ A * P + A) × (A * P ≤ G * P + A)
      go G X A U H P p g x y l =
          let p1 : G * P ≡ H * (2 * X) = ap (λ (z : ℕ). z * P) g ∙ turn X P H p in
          let p2 : A * P ≡ H * (2 * A) = turn A P H p in
          let x' : H * (2 * X) ≤ H * (2 * A + U) = mul-le-mul_left H x in
          let y' : H * (2 * A) ≤ H * (2 * X + U) = mul-le-mul_left H y in
          let d : H * (2 * A + U) ≡ H * (2 * A) + H * U = mul-add H (2 * A) U in
          let d' : H * (2 * X + U) ≡ H * (2 * X) + H * U = mul-add H (2 * X) U in
          omega arith

-- ---- a product with 2 ^ P is exact where it does not overflow
exact_of : (f : Format) (s : Bool) (a c q j : ℕ) → 0 < c → q < 2 ^ prec f → a * 2 ^ low f ≡ q * 2 ^ j * c → a < 2 ^ suc (emax f) * c → HasValue (round f s a c) s a c
exact_of f s a c q j C h e b =
    round_exact f s a c q j C h
    (lt_of_mul-lt-mul_right c
    (lt_of_le_of_lt (le_of_eq (sym e))
    (lt_of_lt_of_le (mul-lt-mul_of_pos_right b (pow_pos (low f))) (le_of_eq (mul_right_comm (2 ^ suc (emax f)) c (2 ^ low f) ∙ ap (λ (z : ℕ). z * c) (mul_comm (2 ^ suc (emax f)) (2 ^ low f) ∙ sym (pow-add 2 (low f) (suc (emax f)))))))))
    e

pub pow_exact : (f : Format) (s : Bool) (m : ℕ) (e : ℤ) (P : ℕ) → T (fits f (fin s (suc m) e)) → suc m * up e * 2 ^ P < 2 ^ suc (emax f) * down e → HasValue (round f s (suc m * up e * 2 ^ P) (down e)) s (suc m * up e * 2 ^ P) (down e)
pow_exact f s m (pos k) P t b = exact_of f s (suc m * 2 ^ k * 2 ^ P) 1 (suc m) (k + P + low f) (zero-lt-suc 0) (fits_digits f s m (pos k) t).0 (places (suc m) k P (low f)) b
  where
    places : (m k P l : ℕ) → m * 2 ^ k * 2 ^ P * 2 ^ l ≡ m * 2 ^ (k + P + l) * 1
    places m k P l = sym (mul-one (m * 2 ^ (k + P + l)) ∙ simp (pow-add, mul_assoc))
pow_exact f s m (negsuc k) P t b =
    let d = fits_digits f s m (negsuc k) t in
    exact_of f s (suc m * 1 * 2 ^ P) (2 ^ suc k) (suc m) (low f - suc k + P) (pow_pos (suc k)) d.0 (places (suc m) (suc k) P (low f - suc k) (low f) (sub-add_cancel (pow_le_cancel (suc k) (low f) d.1))) b
  where
    places : (m k P j l : ℕ) → j + k ≡ l → m * 1 * 2 ^ P * 2 ^ l ≡ m * 2 ^ (j + P) * 2 ^ k
    places m k P j l e =
        ap (λ (z : ℕ). z * 2 ^ P * 2 ^ l) (mul-one m) ∙ ap (λ (z : ℕ). m * 2 ^ P * 2 ^ z) (sym e)
        ∙ ap (λ (z : ℕ). m * 2 ^ P * z) (pow-add 2 j k) ∙ sym (ap (λ (z : ℕ). m * z * 2 ^ k) (pow-add 2 j P) ∙ simp (mul_assoc, mul_comm, mul_left_comm))
