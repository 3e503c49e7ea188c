-- What the judges' tests say, in plain numbers. Cited by their proofs. Assumes nothing.
use mathlib.Core.Path.{◌≡◌, refl}
use mathlib.Core.Bool.{Bool, true, false, not, ◌||◌}
use Prim.Native.Nat.{ℕ, ◌+◌, ◌*◌, ◌%◌, ◌≤◌, ◌<◌}
use native.Mathlib.Nat.{mul-le-mul, mul-lt-mul_of_pos_right, le-mul_of_pos_right}
use native.Mathlib.Omega.{arith}
use lib.Dec.{eqb, ltb}
use borrow.Author.Tests.{lt-ltb, le-ltb}
use Rattle.lists.specs.Ranges.{bad_sides_value}
use Rattle.vertical.specs.Frame.{bad_size, bad_frame, bad_area}
use Rattle.sideways.specs.Sideways.{bad_pixels}

or_true : (b : Bool) → b || true ≡ true
or_true true = refl
or_true false = refl

not_not : (b : Bool) → not (not b) ≡ b
not_not true = refl
not_not false = refl

pub too_few : (components row : ℕ) → components < 1 → bad_pixels components row ≡ true
too_few components row h = rw (lt-ltb components 1 h)

pub too_many : (components row : ℕ) → 4 < components → bad_pixels components row ≡ true
too_many components row h = rw (lt-ltb 4 components h, or_true (ltb components 1))

pub whole_pixels : (components row : ℕ) → 1 ≤ components → components ≤ 4 → not (bad_pixels components row) ≡ eqb (row % components) 0
whole_pixels components row h k = rw (le-ltb components 1 h, le-ltb 4 components k, not_not (eqb (row % components) 0))

pub many_rows : (components row rows lines windows : ℕ) → 1 ≤ components → 32768 < rows → bad_pixels components row || bad_size lines windows (rows * components) ≡ true
many_rows components row rows lines windows some h =
    let l : 32768 < rows * components = omega (arith, le-mul_of_pos_right rows some) in
    rw (lt-ltb 32768 (rows * components) l, or_true (ltb (rows * components) 1), or_true (bad_sides_value lines windows), or_true (bad_pixels components row))

pub times_small : (n components : ℕ) → n ≤ 32768 → components ≤ 4 → n * components ≤ 131072
times_small n components h k = mul-le-mul h k

-- a first row, or a count of rows, past the rows
module _ (lines windows samples rows components first count room : ℕ) (some : 1 ≤ components) where
  past : rows * components < first * components + count * components → bad_area lines windows samples (rows * components) (first * components) (count * components) room ≡ true
  past l = rw (lt-ltb (rows * components) (first * components + count * components) l, or_true (bad_frame samples lines (rows * components)))

  pub past_first : rows < first → bad_area lines windows samples (rows * components) (first * components) (count * components) room ≡ true
  past_first h = past (omega (arith, mul-lt-mul_of_pos_right h some))

  pub past_count : rows < count → bad_area lines windows samples (rows * components) (first * components) (count * components) room ≡ true
  past_count h = past (omega (arith, mul-lt-mul_of_pos_right h some))
