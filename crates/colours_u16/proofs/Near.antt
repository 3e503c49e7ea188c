-- r is no further from x / d than a half: off a half it is the nearest one, and at a half one of the two neighbours. Cited by the division. Assumes nothing.
use Prim.Native.Nat.{ℕ, zero, suc, ◌+◌, ◌*◌, ◌≤◌, ◌<◌}
use native.Mathlib.Nat.{lt_of_mul-lt-mul_left}
use native.Mathlib.Omega.{arith}
use lib.Arith.{lt_of_le-ne}
use Rattle.integers.specs.Nearest.{Nearest}
use Rattle.colours_u16.specs.Alpha.{Half}

pub record Near (x d r : ℕ) : Type 0 where
  pub below : 2 * (d * r) ≤ 2 * x + d
  pub above : 2 * x ≤ 2 * (d * r) + d

strictly_below : (x d r : ℕ) → 0 < d → 2 * (d * r) ≤ 2 * x + d → (Half x d → ⊥) → 2 * (d * r) < 2 * x + d
strictly_below x d zero some b off = omega arith
strictly_below x d (suc r) some b off = lt_of_le-ne b (λ e. off (record { lower = r; middle = omega arith }))

pub near_off_half : (x d r : ℕ) → 0 < d → Near x d r → (Half x d → ⊥) → Nearest x d r
near_off_half x d r some near off = record {
  below = strictly_below x d r some near.below off;
  above = lt_of_le-ne near.above (λ e. off (record { lower = r; middle = e }));
}

pub near_at_half : (x d r : ℕ) → 0 < d → Near x d r → (h : Half x d) → (h.lower ≤ r) × (r ≤ h.lower + 1)
near_at_half x d r some near h =
    let l = h.lower in
    let low : l < r + 1 = lt_of_mul-lt-mul_left d {m = l} {n = r + 1} (omega (arith, near, h.middle)) in
    let high : r < l + 2 = lt_of_mul-lt-mul_left d {m = r} {n = l + 2} (omega (arith, near, h.middle)) in
    (omega arith, omega arith)
