-- A number between -(2^h + 1/2) and 2^h - 1/2 rounds to one that a type of h bits and a sign holds: half of the next whole number is never reached. Cited by the judge.
-- Assumes nothing.
use Rattle.std.proofs.Common.{◌≡◌, ℕ, ◌+◌, ◌-◌, ◌*◌, ◌^◌, ◌<◌, ◌≤◌, Bool, true, false, not, ◌&&◌, T, List, length, get_or, sym, refl, ◌∙◌, subst, zero-lt-suc, div-lt_iff_lt-mul, arith, ltb→lt, pow_pos, pow_mono, le-ltb, lt-ltb}
use lib.Ieee.{Float, nan, inf, fin, binary64, lt, neg, round, up, down}
use lib.Ieee.Exact.{HasValue}
use lib.Ieee.Back.{round_whole}
use lib.Ieee.Fits.{down_pos}
use Rattle.lists.specs.Tab.{any}
use Rattle.lists.proofs.AnyLaws.{any_mono}
use Rattle.lists.proofs.BoolLaws.{never}
use Rattle.floats.proofs.Value.{lt_values, neg_value}
use Rattle.floats.proofs.Integers.{whole_val, half_val}
use Rattle.integers.specs.Nearest.{nearest}
use Rattle.numbers.specs.Whole.{whole, round_away}
use Rattle.windows.specs.declared.Store.{Store}
use Rattle.windows.specs.Set.{in_use_value}
use Rattle.floats.specs.Doubles.{◌times◌}
use Rattle.weight_precision.specs.Precision.{power, scaled}
use Rattle.weight_precision.specs.Weights.{holds, leaves}
use Rattle.weight_precision.specs.Bounds.{and_half, outside}
use Rattle.weight_precision.proofs.Casts.{both, above_all}

-- ---- comparisons with what is no number
not_above_nan : (x : Float) → lt x nan ≡ false
unfolding lt
not_above_nan nan = refl
not_above_nan (inf true) = refl
not_above_nan (inf false) = refl
not_above_nan (fin s m e) = refl

not_below_all : (x : Float) (t : Bool) (b d : ℕ) → HasValue x t b d → lt x (inf true) ≡ false
unfolding lt
not_below_all nan t b d v = absurd v
not_below_all (inf s) t b d v = absurd v
not_below_all (fin s m e) t b d v = refl

-- ---- n is the whole number nearest to a / c
nearest_less : (a c N : ℕ) → 0 < c → a * 2 + c < N * (2 * c) → nearest a c < N
nearest_less a c N C h = (div-lt_iff_lt-mul {k = 2 * c} {x = 2 * a + c} {y = N} (omega arith)).1 (omega arith)

rounds_low : (a c H : ℕ) → a * 2 < (2 * H + 1) * c → a * 2 + c < (H + 1) * (2 * c)
rounds_low a c H h = omega arith

rounds_high : (a c H : ℕ) → 0 < H → a * 2 < (2 * (H - 1) + 1) * c → a * 2 + c < H * (2 * c)
rounds_high a c H some h =
    let k : ℕ = H - 1 in
    let e : H ≡ k + 1 = omega arith in
    rw e (omega arith)

module _ (h : ℕ) (few : h ≤ 51) where
  small : 2 ^ h ≤ 2 ^ 51
  small = pow_mono {i = h} {j = 51} few

  power_value : HasValue (power h) false (2 ^ h) 1
  power_value = whole_val (2 ^ h) (omega (arith, small))

  high_value : HasValue (and_half (2 ^ h - 1)) false (2 * (2 ^ h - 1) + 1) 2
  high_value = half_val (2 ^ h - 1) (omega (arith, small))

  low_value : HasValue (neg (and_half (2 ^ h))) true (2 * 2 ^ h + 1) 2
  low_value = neg_value (and_half (2 ^ h)) false (2 * 2 ^ h + 1) 2 (half_val (2 ^ h) (omega (arith, small)))

  -- a whole number n with either sign
  not_under : (n : ℕ) → n ≤ 2 ^ h → not (lt (round binary64 true n 1) (neg (power h))) && lt (round binary64 true n 1) (power h) ≡ true
  not_under n l =
      let v = round_whole binary64 true n (omega (arith, small)) in
      rw (
        lt_values (round binary64 true n 1) (neg (power h)) true true n 1 (2 ^ h) 1 (zero-lt-suc 0) (zero-lt-suc 0) v (neg_value (power h) false (2 ^ h) 1 power_value),
        lt_values (round binary64 true n 1) (power h) true false n 1 (2 ^ h) 1 (zero-lt-suc 0) (zero-lt-suc 0) v power_value,
        le-ltb (2 ^ h * 1) (n * 1) (omega arith),
        lt-ltb 0 (n * 1 + 2 ^ h * 1) (omega (arith, pow_pos h)),
      ) refl

  not_over : (n : ℕ) → n < 2 ^ h → not (lt (round binary64 false n 1) (neg (power h))) && lt (round binary64 false n 1) (power h) ≡ true
  not_over n l =
      let v = round_whole binary64 false n (omega (arith, small)) in
      rw (
        lt_values (round binary64 false n 1) (neg (power h)) false true n 1 (2 ^ h) 1 (zero-lt-suc 0) (zero-lt-suc 0) v (neg_value (power h) false (2 ^ h) 1 power_value),
        lt_values (round binary64 false n 1) (power h) false false n 1 (2 ^ h) 1 (zero-lt-suc 0) (zero-lt-suc 0) v power_value,
        lt-ltb (n * 1) (2 ^ h * 1) (omega arith),
      ) refl

  inside : (x : Float) → lt (neg (and_half (2 ^ h))) x && lt x (and_half (2 ^ h - 1)) ≡ true → not (lt (round_away binary64 x) (neg (power h))) && lt (round_away binary64 x) (power h) ≡ true
  unfolding whole
  inside nan t = never (rw (not_above_nan (neg (and_half (2 ^ h)))) at (sym t))
  inside (inf true) t = never (rw (not_below_all (neg (and_half (2 ^ h))) true (2 * 2 ^ h + 1) 2 low_value) at (sym t))
  inside (inf false) t = absurd (subst T (above_all (and_half (2 ^ h - 1)) false (2 * (2 ^ h - 1) + 1) 2 high_value) (both (lt (neg (and_half (2 ^ h))) (inf false)) (lt (inf false) (and_half (2 ^ h - 1))) t).1)
  inside (fin true m e) t =
      let b = (both (lt (neg (and_half (2 ^ h))) (fin true m e)) (lt (fin true m e) (and_half (2 ^ h - 1))) t).0 in
      let v = lt_values (neg (and_half (2 ^ h))) (fin true m e) true true (2 * 2 ^ h + 1) 2 (m * up e) (down e) (zero-lt-suc 1) (down_pos e) low_value (refl, refl) in
      let l : nearest (m * up e) (down e) < 2 ^ h + 1 = nearest_less (m * up e) (down e) (2 ^ h + 1) (down_pos e) (rounds_low (m * up e) (down e) (2 ^ h) (ltb→lt (m * up e * 2) ((2 * 2 ^ h + 1) * down e) (subst T v b))) in
      not_under (nearest (m * up e) (down e)) (omega arith)
  inside (fin false m e) t =
      let b = (both (lt (neg (and_half (2 ^ h))) (fin false m e)) (lt (fin false m e) (and_half (2 ^ h - 1))) t).1 in
      let v = lt_values (fin false m e) (and_half (2 ^ h - 1)) false false (m * up e) (down e) (2 * (2 ^ h - 1) + 1) 2 (down_pos e) (zero-lt-suc 1) (refl, refl) high_value in
      not_over (nearest (m * up e) (down e))
      (nearest_less (m * up e) (down e) (2 ^ h) (down_pos e) (rounds_high (m * up e) (down e) (2 ^ h) (pow_pos h) (ltb→lt (m * up e * 2) ((2 * (2 ^ h - 1) + 1) * down e) (subst T v b))))

-- a weight that is not outside the bounds does not leave its type
pub stays : (store : Store) → store.limit ≤ 51 → (p : ℕ) (w : Float) (u : Bool) → not (lt (neg (and_half (2 ^ store.limit))) (w times power p) && lt (w times power p) (and_half (2 ^ store.limit - 1))) ≡ false → u && not (holds store (scaled p w)) ≡ false
unfolding scaled
stays store few p w u e = rw (inside store.limit few (w times power p) (denied (lt (neg (and_half (2 ^ store.limit))) (w times power p) && lt (w times power p) (and_half (2 ^ store.limit - 1))) e)) (none u)
  where
    denied : (b : Bool) → not b ≡ false → b ≡ true
    denied true e = refl
    denied false e = never e

    none : (u : Bool) → u && false ≡ false
    none true = refl
    none false = refl

-- no weight is outside the bounds: none in use leaves its type
pub none_leaves : (store : Store) → store.limit ≤ 51 → (p window_size_value : ℕ) (weights : List Float) (sizes : List ℕ) {low high unit : Float} {r : Bool} → low ≡ neg (and_half (2 ^ store.limit)) → high ≡ and_half (2 ^ store.limit - 1) → unit ≡ power p → r ≡ any (length weights) (outside low high unit weights) → not r ≡ true → any (length weights) (leaves store p window_size_value weights sizes) ≡ false
none_leaves store few p window_size_value weights sizes {low} {high} {unit} {r} el eh eu er e =
    any_mono (outside low high unit weights) (leaves store p window_size_value weights sizes) (length weights)
    (λ k l out. stays store few p (get_or weights k nan) (in_use_value window_size_value sizes k) (rw (el, eh, eu) at out)) (sym er ∙ clear r e)
  where
    clear : (b : Bool) → not b ≡ true → b ≡ false
    clear true e = never (sym e)
    clear false e = refl
