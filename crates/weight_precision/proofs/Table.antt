-- Rows 7, 8 and 9 of document 01's table, and what else the definitions give at small sets, by computation. Assumes nothing.
use Rattle.std.proofs.Common.{◌≡◌, [], ◌∷◌, pos, negsuc, refl}
use lib.Ieee.{Float, of_int, div, mul, le, lt, neg, round, to_signed, of_bits}
use Rattle.integers.specs.Sums.{sum}
use Rattle.floats.specs.Doubles.{double, ◌over◌}
use Rattle.numbers.specs.Whole.{whole}
use Rattle.windows.specs.Store.{store16, store32}
use Rattle.weight_precision.specs.Precision.{largest, scaled, precision, integer}

abbrev one : Float
one = double 1

abbrev third : Float
third = one over double 3

-- one weight 1.0: precision 14, weight 16384
pub row_7 : (precision store16 (one ∷ []) ≡ 14) × (integer store16 14 one ≡ pos 16384)
unfolding precision integer largest scaled whole of_int div mul le lt round to_signed of_bits
row_7 = (refl, refl)

-- three weights of 1/3: precision 16, each 21845, total 65535
pub row_8 : (precision store16 (third ∷ third ∷ third ∷ []) ≡ 16) × (integer store16 16 third ≡ pos 21845) × (sum (λ k. integer store16 16 third) 3 ≡ pos 65535)
unfolding sum precision integer largest scaled whole of_int div mul le lt round to_signed of_bits
row_8 = (refl, refl, refl)

-- 32-bit, one weight 1.0: precision 30, weight 1073741824
pub row_9 : (precision store32 (one ∷ []) ≡ 30) × (integer store32 30 one ≡ pos 1073741824)
unfolding precision integer largest scaled whole of_int div mul le lt round to_signed of_bits
row_9 = (refl, refl)

-- 65535 / 65536
abbrev almost_one : Float
almost_one = double 65535 over double 65536

-- the product is rounded before it is compared: 65535 / 65536 x 2^15 is 32767.5, which rounds to 2^15, so the precision is 14 and not 15
pub rounded_first : (precision store16 (almost_one ∷ []) ≡ 14) × (integer store16 14 almost_one ≡ pos 16384)
unfolding precision integer largest scaled whole of_int div mul le lt round to_signed of_bits
rounded_first = (refl, refl)

abbrev half : Float
half = one over double 2

-- the precision comes from the largest weight of the whole set, and not from the largest in size: -1.0, 0.5 have precision 15, where -1.0 is -32768
pub from_the_largest : (precision store16 (neg one ∷ half ∷ []) ≡ 15) × (integer store16 15 (neg one) ≡ negsuc 32767)
unfolding precision integer largest scaled whole of_int div mul le lt neg round to_signed of_bits
from_the_largest = (refl, refl)
