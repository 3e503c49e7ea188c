-- How many rows are next: the two ways of `at_once`, and what the loop over the rows asks of the number. Cited by `at_once` and `fill_rows`. Assumes nothing.
use mathlib.Core.Path.{◌≡◌, refl}
use mathlib.Core.Bool.{Bool, true, false, cond, ◌||◌}
use Prim.Native.Nat.{ℕ, ◌≤◌, ◌<◌}
use native.Mathlib.Omega.{arith}
use lib.Dec.{ltb}
use borrow.Author.Tests.{ltb-false}
use Rattle.lists.proofs.BoolLaws.{or_left, or_right}
use Rattle.pixels_u16.specs.Places.{side_by_side, at_once_value}

module _ (components window left : ℕ) {n : ℕ} (e : n ≡ side_by_side components) where
  pub one_next : ltb 32 window || ltb left n ≡ true → 1 ≡ at_once_value components window left
  unfolding at_once_value
  one_next h = rw (← e, h)

  pub all_next : ltb 32 window || ltb left n ≡ false → n ≡ at_once_value components window left
  unfolding at_once_value
  all_next h = rw (← e, h)

-- one row, or as many as go side by side, in windows of up to 32 lines; and no more than are left
pub record Next (components window left n : ℕ) : Type 0 where
  pub several : 1 < n → (n ≡ side_by_side components) × (window ≤ 32)
  pub some : 1 ≤ n
  pub few : n ≤ 16
  pub there : n ≤ left

some_rows : (components : ℕ) → (1 ≤ side_by_side components) × (side_by_side components ≤ 16)
some_rows components = go (ltb components 3)
  where
    go : (b : Bool) → (1 ≤ cond b 8 4) × (cond b 8 4 ≤ 16)
    go true = (omega arith, omega arith)
    go false = (omega arith, omega arith)

pub next : (components window left : ℕ) {n : ℕ} → 1 ≤ left → n ≡ at_once_value components window left → Next components window left n
unfolding at_once_value
next components window left {n} l e = go (ltb 32 window || ltb left (side_by_side components)) refl e
  where
    go : (b : Bool) → (ltb 32 window || ltb left (side_by_side components)) ≡ b → n ≡ cond b 1 (side_by_side components) → Next components window left n
    go true h q = record { several = λ m. absurd (omega arith); some = omega arith; few = omega arith; there = omega arith }
    go false h q = record {
      several = λ m. (q, ltb-false 32 window (or_left (ltb 32 window) (ltb left (side_by_side components)) h));
      some = omega (arith, some_rows components);
      few = omega (arith, some_rows components);
      there = omega (arith, ltb-false left (side_by_side components) (or_right (ltb 32 window) (ltb left (side_by_side components)) h));
    }
