-- Narrowing by adding and taking away: (x + c) - c, where c is an even multiple of the result's last place, and so large that the sum's last place is the
-- result's: `grid`. Over any format. Cited by `Narrowed`. Assumes nothing.
use mathlib.Core.Path.{◌≡◌, sym, ap, ◌∙◌, subst}
use mathlib.Core.Logic.{inr}
use Prim.Native.Nat.{ℕ, suc, ◌+◌, ◌-◌, ◌*◌, ◌/◌, ◌%◌, ◌^◌, ◌≤◌, ◌<◌, compare}
use native.Mathlib.Nat.{le_trans, le_of_eq, le_of_lt, lt_of_le_of_lt, zero-mul, add_comm, div-lt_iff_lt-mul, mul-one, mul_assoc, mul-le-mul_right, mul-pos, add-mul, le-add_right}
use native.Mathlib.Omega.{arith}
use mathlib.Core.Bool.{Bool, true, false, not, ◌&&◌, cond}
use lib.Dec.{T, ltb, ltb→lt, lt→ltb, nltb→le}
use lib.Pow.{pow-add, pow_pos, pow-lt, shr_lt}
use lib.Ieee.{Float, Format, prec, emax, low, units, round, sum, add, sub}
use lib.Ieee.Fits.{nearest-le}
use lib.Ieee.Exact.{HasValue, units_val}
use lib.Ieee.Nearest.{closest}
use lib.Ieee.Bits.{is_true}
use Rattle.floats.proofs.Digits.{closest_add, round_digits}
use Rattle.floats.proofs.Value.{add_values, sub_values, sum_scale, like_signs}
use Rattle.floats.proofs.Within.{unlike_signs}
use Rattle.row_f32.proofs.FromAbove.{closest_sub}

-- ---- sums over one denominator
add_common : (f : Format) (x y : Float) (s t : Bool) (a b c : ℕ) → 0 < c → HasValue x s a c → HasValue y t b c → add f x y ≡ sum f s a t b c
add_common f x y s t a b c C p q = add_values f x y s t a c b c C C p q ∙ sum_scale f s t (a * c) (b * c) a b (c * c) c (mul-pos C C) C (mul_assoc a c c) (mul_assoc b c c)

sub_common : (f : Format) (x y : Float) (s t : Bool) (a b c : ℕ) → 0 < c → HasValue x s a c → HasValue y t b c → sub f x y ≡ sum f s a (not t) b c
sub_common f x y s t a b c C p q = sub_values f x y s t a c b c C C p q ∙ sum_scale f s (not t) (a * c) (b * c) a b (c * c) c (mul-pos C C) C (mul_assoc a c c) (mul_assoc b c c)

sum_below : (f : Format) (a b c : ℕ) → a < b → sum f true a false b c ≡ round f false (b - a) c
unfolding sum
sum_below f a b c h = ap (λ (z : Bool). cond z (round f false (b - a) c) (round f (true && ltb b a) (a - b) c)) (is_true (ltb a b) (lt→ltb a b h))

sum_past : (f : Format) (a b c : ℕ) → a < b → sum f false a true b c ≡ round f true (b - a) c
unfolding sum
sum_past f a b c h = ap (λ (z : Bool). cond z (round f true (b - a) c) (round f (false && ltb b a) (a - b) c)) (is_true (ltb a b) (lt→ltb a b h))

-- ---- x + c, and c taken away: x to a multiple of 2 ^ K
places : (l K : ℕ) → l + K ≡ K + (0 + l)
places l K = omega arith

even : (i : ℕ) → i * 2 % 2 ≡ 0
even i = omega arith

abbrev shifted : Bool → ℕ → ℕ → ℕ
shifted false w q = w + q
shifted true w q = w - q

whole_part : (f : Format) (M K : ℕ) → M < 2 ^ (prec f + K) → 2 ^ (prec f - 1 + K) ≤ M → round f false M (2 ^ low f) ≡ units f false (closest M (2 ^ K)) K
whole_part f M K a b = ap (λ (z : ℕ). round f false z (2 ^ low f)) (sym (mul-one M)) ∙ round_digits f M 0 (low f) K K a (inr b) (places (low f) K) false

pub kept : (p M K : ℕ) → M < 2 ^ (p + K) → closest M (2 ^ K) ≤ 2 ^ p
kept p M K h = le_trans (nearest-le (M / 2 ^ K) (compare (M % 2 ^ K * 2) (2 ^ K))) (shr_lt p K h)

module _ (f : Format) (x c : Float) (N K i : ℕ) (C : HasValue c false (i * 2 * 2 ^ K) (2 ^ low f)) (under : N < i * 2 * 2 ^ K) (hi : i * 2 * 2 ^ K + N < 2 ^ (prec f + K)) (lo : 2 ^ (prec f - 1 + K) ≤ i * 2 * 2 ^ K - N) (fine : prec f + K < low f + suc (emax f)) where
  abbrev Q : ℕ
  Q = closest N (2 ^ K)

  QLe : Q ≤ i * 2
  QLe = le_trans (nearest-le (N / 2 ^ K) (compare (N % 2 ^ K * 2) (2 ^ K))) ((div-lt_iff_lt-mul (pow_pos K)).1 under)

  drop_hi : (W : ℕ) → W + N < 2 ^ (prec f + K) → W - N < 2 ^ (prec f + K)
  drop_hi W h = omega arith

  drop_lo : (W B : ℕ) → B ≤ W - N → B ≤ N + W
  drop_lo W B h = omega arith

  turn_hi : (W B : ℕ) → W + N < B → N + W < B
  turn_hi W B h = omega arith

  added : (s : Bool) → HasValue x s N (2 ^ low f) → add f x c ≡ units f false (shifted s (i * 2) Q) K
  added false X =
      add_common f x c false false N (i * 2 * 2 ^ K) (2 ^ low f) (pow_pos (low f)) X C ∙ like_signs f N (i * 2 * 2 ^ K) (2 ^ low f)
      ∙ whole_part f (N + i * 2 * 2 ^ K) K (turn_hi (i * 2 * 2 ^ K) (2 ^ (prec f + K)) hi) (drop_lo (i * 2 * 2 ^ K) (2 ^ (prec f - 1 + K)) lo)
      ∙ ap (λ (z : ℕ). units f false z K) (ap (λ (z : ℕ). closest z (2 ^ K)) (add_comm N (i * 2 * 2 ^ K)) ∙ closest_add i N (2 ^ K) (pow_pos K))
  added true X =
      add_common f x c true false N (i * 2 * 2 ^ K) (2 ^ low f) (pow_pos (low f)) X C ∙ sum_below f N (i * 2 * 2 ^ K) (2 ^ low f) under
      ∙ whole_part f (i * 2 * 2 ^ K - N) K (drop_hi (i * 2 * 2 ^ K) hi) lo
      ∙ ap (λ (z : ℕ). units f false z K) (closest_sub (i * 2) N (2 ^ K) (pow_pos K) (even i) (le_of_lt under))

  shifted_le : (s : Bool) → shifted s (i * 2) Q ≤ 2 ^ prec f
  shifted_le false =
      subst (λ (z : ℕ). z ≤ 2 ^ prec f) (closest_add i N (2 ^ K) (pow_pos K)) (kept (prec f) (i * 2 * 2 ^ K + N) K hi)
  shifted_le true =
      subst (λ (z : ℕ). z ≤ 2 ^ prec f) (closest_sub (i * 2) N (2 ^ K) (pow_pos K) (even i) (le_of_lt under)) (kept (prec f) (i * 2 * 2 ^ K - N) K (drop_hi (i * 2 * 2 ^ K) hi))

  added_value : (s : Bool) → HasValue x s N (2 ^ low f) → HasValue (add f x c) false (shifted s (i * 2) Q * 2 ^ K) (2 ^ low f)
  added_value s X =
      subst (λ (z : Float). HasValue z false (shifted s (i * 2) Q * 2 ^ K) (2 ^ low f)) (sym (added s X))
      (units_val f false (shifted s (i * 2) Q) K (lt_of_le_of_lt (le_trans (mul-le-mul_right (2 ^ K) (shifted_le s)) (le_of_eq (sym (pow-add 2 (prec f) K)))) (pow-lt fine)))

  taken : (s : Bool) → HasValue x s N (2 ^ low f) → sub f (add f x c) c ≡ sum f false (shifted s (i * 2) Q * 2 ^ K) true (i * 2 * 2 ^ K) (2 ^ low f)
  taken s X = sub_common f (add f x c) c false false (shifted s (i * 2) Q * 2 ^ K) (i * 2 * 2 ^ K) (2 ^ low f) (pow_pos (low f)) (added_value s X) C

  pub grid : (s : Bool) → HasValue x s N (2 ^ low f) → sub f (add f x c) c ≡ round f (s && ltb 0 Q) (Q * 2 ^ K) (2 ^ low f)
  grid false X =
      taken false X
      ∙ unlike_signs f ((i * 2 + Q) * 2 ^ K) (i * 2 * 2 ^ K) (2 ^ low f) (mul-le-mul_right (2 ^ K) (le-add_right (i * 2) Q))
      ∙ ap (λ (z : ℕ). round f false z (2 ^ low f)) (rest (i * 2 * 2 ^ K) (Q * 2 ^ K) ((i * 2 + Q) * 2 ^ K) (add-mul (i * 2) Q (2 ^ K)))
    where
      rest : (A B S : ℕ) → S ≡ A + B → S - A ≡ B
      rest A B S e = omega arith
  grid true X = taken true X ∙ go (ltb 0 Q) (ltb→lt 0 Q) (nltb→le 0 Q)
    where
      parts : (i * 2 - Q) * 2 ^ K + Q * 2 ^ K ≡ i * 2 * 2 ^ K
      parts = sym (add-mul (i * 2 - Q) Q (2 ^ K)) ∙ ap (λ (z : ℕ). z * 2 ^ K) (back (i * 2) Q QLe)
        where
          back : (w q : ℕ) → q ≤ w → w - q + q ≡ w
          back w q h = omega arith

      less : 0 < Q → (i * 2 - Q) * 2 ^ K < i * 2 * 2 ^ K
      less h = go ((i * 2 - Q) * 2 ^ K) (Q * 2 ^ K) (i * 2 * 2 ^ K) (mul-pos h (pow_pos K)) parts
        where
          go : (A B S : ℕ) → 0 < B → A + B ≡ S → A < S
          go A B S h e = omega arith

      rest : (A B S : ℕ) → A + B ≡ S → S - A ≡ B
      rest A B S e = omega arith

      none : (q : ℕ) → q ≤ 0 → q ≡ 0
      none q h = omega arith

      flat : (A B S : ℕ) → A + B ≡ S → B ≡ 0 → (S ≤ A) × (A - S ≡ B)
      flat A B S e z = omega arith

      go : (b : Bool) → (T b → 0 < Q) → (T (not b) → Q ≤ 0) → sum f false ((i * 2 - Q) * 2 ^ K) true (i * 2 * 2 ^ K) (2 ^ low f) ≡ round f b (Q * 2 ^ K) (2 ^ low f)
      go true p q = sum_past f ((i * 2 - Q) * 2 ^ K) (i * 2 * 2 ^ K) (2 ^ low f) (less (p tt)) ∙ ap (λ (z : ℕ). round f true z (2 ^ low f)) (rest ((i * 2 - Q) * 2 ^ K) (Q * 2 ^ K) (i * 2 * 2 ^ K) parts)
      go false p q =
          let z = flat ((i * 2 - Q) * 2 ^ K) (Q * 2 ^ K) (i * 2 * 2 ^ K) parts (ap (λ (z : ℕ). z * 2 ^ K) (none Q (q tt)) ∙ zero-mul (2 ^ K)) in
          unlike_signs f ((i * 2 - Q) * 2 ^ K) (i * 2 * 2 ^ K) (2 ^ low f) z.0 ∙ ap (λ (z : ℕ). round f false z (2 ^ low f)) z.1
