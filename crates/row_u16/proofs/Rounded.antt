-- The rounding of a sum in doubles. The sum is a whole number and a half, so it is no tie, and the nearest multiple of 2^p is the floor that `shifted` defines.
-- Cited by `fill_short`. Assumes nothing.
use mathlib.Core.Path.{◌≡◌, refl, sym, ap, ◌∙◌, subst}
use mathlib.Core.Bool.{Bool, true, false, not, cond}
use Prim.Native.Nat.{ℕ, suc, ◌+◌, ◌-◌, ◌*◌, ◌/◌, ◌%◌, ◌^◌, ◌≤◌, ◌<◌, min}
use native.Mathlib.Nat.{zero-lt-suc, mul_left_comm, pow-succ', lt_of_mul-lt-mul_right, le-div_iff_mul-le, div-eq_of_lt-le, suc-mul}
use native.Mathlib.Numerals.{add-one}
use native.Mathlib.Omega.{arith}
use lib.Dec.{T, ltb, lit<}
use lib.Pow.{pow_pos}
use lib.IntN.{ℤ, pos, negsuc, nat_abs, ◌+ℤ◌}
use lib.Signed.{shr_z}
use lib.Ieee.{Float, binary64, of_bits, to_bits, is_nan}
use lib.Ieee.Exact.{HasValue}
use lib.Ieee.Nearest.{closest}
use borrow.Author.Tests.{ltb-true, ltb-false}
use Rattle.floats.specs.Doubles.{half64}
use Rattle.floats.specs.Halves.{halves, far}
use Rattle.floats.proofs.Error.{closest_near}
use Rattle.floats.proofs.Far.{scaled_value, far_number, far_bits}
use Rattle.floats.proofs.Halves.{halves_value}
use Rattle.floats.proofs.Value.{lt_values, larger, smaller}
use Rattle.integers.specs.Sums.{shifted, clipped}
use Rattle.integers.proofs.Parts.{plus, minus, pos_parts, add_parts, alone}
use Rattle.integers.proofs.Floors.{Floor, floor, halves as two-halves}
use Rattle.row_u16.specs.Chunks.{half_more, at_least, at_most, placed, top_of}
use Rattle.row_u16.proofs.Exact.{double_size}

-- ---- a floor below 1 is clipped to 0
negsuc_parts : (k : ℕ) → (plus (negsuc k) ≡ 0) × (minus (negsuc k) ≡ suc k)
unfolding plus minus
negsuc_parts k = (refl, refl)

low_floor : (M : ℕ) (z q : ℤ) → plus z < minus z + M → Floor z M q → clipped 65535 q ≡ 0
unfolding clipped plus minus
low_floor M z (pos v) h f = let a : v < 1 = lt_of_mul-lt-mul_right M {m = v} {n = 1} (omega (arith, f.low)) in omega arith
low_floor M z (negsuc v) h f = refl

-- ---- the nearest whole number C to n / (2 M), for n halves: the floor of the sum and a half, clipped
module _ (M H C : ℕ) (even : M ≡ H + H) (some : 0 < H) where
  -- n is 2 s + 1, and C is the floor of (s + H) / M
  inside : (s : ℕ) → 2 * (C * (2 * M)) ≤ 2 * (2 * s + 1) + 2 * M → 2 * (2 * s + 1) ≤ 2 * (C * (2 * M)) + 2 * M → (C * M ≤ s + H) × (s + H < C * M + M)
  inside s l h = let e : C * (2 * M) ≡ 2 * (C * M) = mul_left_comm C 2 M in omega arith

  full : 2 * (C * (2 * M)) ≤ 2 * (131070 * M) + 2 * M → 2 * (131070 * M) ≤ 2 * (C * (2 * M)) + 2 * M → C ≡ 65535
  full l h =
      let e : C * (2 * M) ≡ 2 * (C * M) = mul_left_comm C 2 M in
      let a : C < 65536 = lt_of_mul-lt-mul_right M {m = C} {n = 65536} (omega arith) in
      let b : 65534 < C = lt_of_mul-lt-mul_right M {m = 65534} {n = C} (omega arith) in omega arith

  none : 2 * (C * (2 * M)) ≤ 2 * 1 + 2 * M → C ≡ 0
  none l =
      let e : C * (2 * M) ≡ 2 * (C * M) = mul_left_comm C 2 M in
      let a : C < 1 = lt_of_mul-lt-mul_right M {m = C} {n = 1} (omega arith) in omega arith

  -- a sum of 0 or more
  over : (s n : ℕ) → n ≡ min (2 * s + 1) (131070 * M) → 2 * (C * (2 * M)) ≤ 2 * n + 2 * M → 2 * n ≤ 2 * (C * (2 * M)) + 2 * M → (C ≤ 65535) × (C ≡ clipped 65535 (shr_z (pos (s + H)) M))
  unfolding clipped
  over s n en l h = go (ltb (2 * s + 1) (131070 * M)) refl
    where
      go : (d : Bool) → ltb (2 * s + 1) (131070 * M) ≡ d → (C ≤ 65535) × (C ≡ min ((s + H) / M) 65535)
      go true e =
          let k : 2 * s + 1 < 131070 * M = ltb-true (2 * s + 1) (131070 * M) e in
          let b = inside s (omega arith) (omega arith) in
          let c : C < 65536 = lt_of_mul-lt-mul_right M {m = C} {n = 65536} (omega arith) in
          let q : (s + H) / M ≡ C = div-eq_of_lt-le M b.0 (rw (add-one, suc-mul) b.1) in
          (omega arith, omega arith)
      go false e =
          let k : 131070 * M ≤ 2 * s + 1 = ltb-false (2 * s + 1) (131070 * M) e in
          let c = full (omega arith) (omega arith) in
          let m : 0 < M = omega arith in
          let q : 65535 ≤ (s + H) / M = (le-div_iff_mul-le {k = M} {x = 65535} {y = s + H} m).1 (omega arith) in
          (omega arith, omega arith)

  -- a sum below 0
  under : (k n : ℕ) → n ≡ min 1 (131070 * M) → 2 * (C * (2 * M)) ≤ 2 * n + 2 * M → (C ≤ 65535) × (C ≡ clipped 65535 (shr_z (negsuc k +ℤ pos H) M))
  under k n en l =
      let c = none (omega arith) in
      (omega arith, c ∙ sym (low_floor M (negsuc k +ℤ pos H) (shr_z (negsuc k +ℤ pos H) M) (omega (arith, add_parts (negsuc k) (pos H), pos_parts H, negsuc_parts k)) (floor (negsuc k +ℤ pos H) (omega arith))))

nearest_at : (p : ℕ) → 1 ≤ p → (z : ℤ) (n : ℕ) {C : ℕ} → n ≡ min (1 + (plus (z +ℤ z +ℤ pos 1) - 1)) (131070 * 2 ^ p) → 2 * (C * (2 * 2 ^ p)) ≤ 2 * n + 2 * 2 ^ p → 2 * n ≤ 2 * (C * (2 * 2 ^ p)) + 2 * 2 ^ p → (C ≤ 65535) × (C ≡ clipped 65535 (shifted p z))
unfolding shifted
nearest_at p one (pos s) n {C} e l h =
    over (2 ^ p) (2 ^ (p - 1)) C (two-halves p one) (pow_pos (p - 1)) s n (omega (arith, pos_parts (s + s + 1))) l h
nearest_at p one (negsuc k) n {C} e l h =
    let z = negsuc k in
    under (2 ^ p) (2 ^ (p - 1)) C (two-halves p one) (pow_pos (p - 1)) k n
    (omega (arith, negsuc_parts k, pos_parts 1, add_parts (z +ℤ z) (pos 1), add_parts z z, alone (z +ℤ z +ℤ pos 1))) l

-- ---- the two bounds
half_value : HasValue half64 false 1 2
unfolding of_bits
half_value = (refl, refl)

top_value : (p : ℕ) → p ≤ 45 → HasValue (top_of p) false (131070 * 2 ^ p) 2
top_value p h = scaled_value 1037 4503462188417024 131070 2 p (lit< tt) (omega arith) refl

-- z halves, or one if that is more
at_least_fact : (z : ℤ) → nat_abs z < 2 ^ 53 → HasValue (at_least (halves z)) false (1 + (plus z - 1)) 2
unfolding plus
at_least_fact (pos n) h = larger half64 (halves (pos n)) 1 n 2 (zero-lt-suc 1) half_value (halves_value (pos n) h)
at_least_fact (negsuc n) h =
    subst (λ (d : Bool). HasValue (cond d (halves (negsuc n)) half64) false 1 2)
    (sym (lt_values half64 (halves (negsuc n)) false true 1 2 (suc n) 2 (zero-lt-suc 1) (zero-lt-suc 1) half_value (halves_value (negsuc n) h)))
    half_value

-- ---- a sum z in doubles
module _ (p : ℕ) (z : ℤ) (one : 1 ≤ p) (few : p ≤ 45) (size : nat_abs z < 2 ^ 52) where
  abbrev N : ℕ
  N = min (1 + (plus (z +ℤ z +ℤ pos 1) - 1)) (131070 * 2 ^ p)

  value : HasValue (at_most (at_least (half_more z)) (top_of p)) false N 2
  value = smaller (at_least (half_more z)) (top_of p) (1 + (plus (z +ℤ z +ℤ pos 1) - 1)) (131070 * 2 ^ p) 2 (zero-lt-suc 1) (at_least_fact (z +ℤ z +ℤ pos 1) (omega (arith, double_size z))) (top_value p few)

  small : N < 2 ^ 53 * 2 ^ p
  small = omega (arith, pow_pos p)

  fewer : p < 971
  fewer = omega arith

  placed_number : T (not (is_nan (placed (half_more z) (top_of p) (far p))))
  unfolding placed
  placed_number = far_number p N fewer small (at_most (at_least (half_more z)) (top_of p)) value

  nearest_is : (closest N (2 ^ (p + 1)) ≤ 65535) × (closest N (2 ^ (p + 1)) ≡ clipped 65535 (shifted p z))
  nearest_is = nearest_at p one z N refl near.0 near.1
    where
      near : (2 * (closest N (2 ^ (p + 1)) * (2 * 2 ^ p)) ≤ 2 * N + 2 * 2 ^ p) × (2 * N ≤ 2 * (closest N (2 ^ (p + 1)) * (2 * 2 ^ p)) + 2 * 2 ^ p)
      near =
          subst (λ (b : ℕ). (2 * (closest N (2 ^ (p + 1)) * b) ≤ 2 * N + b) × (2 * N ≤ 2 * (closest N (2 ^ (p + 1)) * b) + b))
          (ap (λ (i : ℕ). 2 ^ i) (add-one p) ∙ pow-succ' 2 p) (closest_near N (2 ^ (p + 1)) (pow_pos (p + 1)))

  cut_is : to_bits binary64 (placed (half_more z) (top_of p) (far p)) % 65536 ≡ clipped 65535 (shifted p z)
  unfolding placed
  cut_is =
      let l : closest N (2 ^ (p + 1)) ≤ 2 ^ 52 = omega (arith, nearest_is) in
      ap (λ (b : ℕ). b % 65536) (far_bits p N fewer small (at_most (at_least (half_more z)) (top_of p)) value l) ∙ omega (arith, nearest_is) ∙ nearest_is.1

  -- for doubles that are these
  pub number_as : {v x y : Float} → v ≡ half_more z → x ≡ top_of p → y ≡ far p → T (not (is_nan (placed v x y)))
  number_as ev ex ey = rw (ev, ex, ey) placed_number

  pub cut_as : {v x y : Float} → v ≡ half_more z → x ≡ top_of p → y ≡ far p → to_bits binary64 (placed v x y) % 65536 ≡ clipped 65535 (shifted p z)
  cut_as ev ex ey = rw (ev, ex, ey) cut_is
