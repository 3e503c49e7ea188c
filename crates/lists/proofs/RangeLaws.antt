-- A number that is not outside its range, and two sides that No. 1 does not refuse, in plain comparisons. Cited wherever a judge's answer is taken apart.
-- Assumes nothing.
use mathlib.Core.Path.{◌≡◌}
use mathlib.Core.Bool.{false}
use Prim.Native.Nat.{ℕ, ◌≤◌}
use lib.Dec.{ltb}
use borrow.Author.Tests.{ltb-false}
use Rattle.lists.specs.Ranges.{outside, bad_sides_value}
use Rattle.lists.proofs.BoolLaws.{or_left, or_right}

-- low to high
pub record InRange (low high n : ℕ) : Type 0 where
  pub least : low ≤ n
  pub most : n ≤ high

pub not_outside : (low high n : ℕ) → outside low high n ≡ false → InRange low high n
not_outside low high n h = record {
  least = ltb-false n low (or_left (ltb n low) (ltb high n) h);
  most = ltb-false high n (or_right (ltb n low) (ltb high n) h);
}

pub first_side : (first second : ℕ) → bad_sides_value first second ≡ false → InRange 1 8192 first
first_side first second h = not_outside 1 8192 first (or_left (outside 1 8192 first) (outside 1 8192 second) h)

pub second_side : (first second : ℕ) → bad_sides_value first second ≡ false → InRange 1 8192 second
second_side first second h = not_outside 1 8192 second (or_right (outside 1 8192 first) (outside 1 8192 second) h)
