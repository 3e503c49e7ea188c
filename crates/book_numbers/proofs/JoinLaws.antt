-- The join of the reports of two parts is the report of both. Cited by the loops that count windows and sheets, and by the theorem on two texts. Assumes nothing.
use mathlib.Core.Path.{◌≡◌, sym, ◌∙◌}
use mathlib.Core.List.{List, ◌++◌}
use Prim.Native.Nat.{ℕ, ◌+◌, ◌^◌, ◌<◌}
use native.Mathlib.Omega.{arith}
use lib.ListN.{length, length-append}
use Rattle.book_numbers.specs.Marks.{Mark, how_many, below, above, numbers_of}
use Rattle.book_numbers.specs.Joins.{added, join_of}
use Rattle.book_numbers.proofs.OrderLaws.{below_order, above_order}
use Rattle.book_numbers.proofs.NumberLaws.{many_append, many_le, extreme_append}

added_is : (x y : ℕ) → x + y < 2 ^ 64 → added x y ≡ x + y
added_is x y l = omega arith

-- n sheets with the windows l, and m sheets with the windows k after them
pub join_numbers : (n m : ℕ) (l k : List Mark) (s a b : ℕ) → n + m < 2 ^ 64 → length l + length k < 2 ^ 64 → a + b < 2 ^ 64 → join_of (numbers_of n l 0 a) (numbers_of m k s b) ≡ numbers_of (n + m) (l ++ k) s (a + b)
unfolding join_of
join_numbers n m l k s a b few short small = λ i. record {
  sheets = added_is n m few i;
  windows = (added_is (length l) (length k) short ∙ sym (length-append l k)) i;
  least = sym (extreme_append below below_order l k) i;
  most = sym (extreme_append above above_order l k) i;
  notflat = (added_is (how_many (λ m. m.not_flat) l) (how_many (λ m. m.not_flat) k) (omega (arith, many_le (λ m. m.not_flat) l, many_le (λ m. m.not_flat) k)) ∙ sym (many_append (λ m. m.not_flat) l k)) i;
  negative = (added_is (how_many (λ m. m.negative) l) (how_many (λ m. m.negative) k) (omega (arith, many_le (λ m. m.negative) l, many_le (λ m. m.negative) k)) ∙ sym (many_append (λ m. m.negative) l k)) i;
  stopped = s;
  byte = added_is a b small i;
}
