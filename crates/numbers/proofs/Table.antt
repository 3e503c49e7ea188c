-- Rows 13 and 14 of document 01's table, by computation. Assumes nothing.
use Rattle.std.proofs.Common.{◌≡◌, ◌+◌, ◌^◌, true, false, pos, negsuc, refl}
use lib.Ieee.{fin, binary64, round}
use Rattle.numbers.specs.Whole.{whole, round_away, narrow}

-- 2.5, -2.5 and -0.5 give 3, -3 and -1
pub row_13 : (round_away binary64 (fin false 5 (negsuc 0)) ≡ fin false 3 (pos 0)) × (round_away binary64 (fin true 5 (negsuc 0)) ≡ fin true 3 (pos 0)) × (round_away binary64 (fin true 1 (negsuc 0)) ≡ fin true 1 (pos 0))
unfolding whole round
row_13 = (refl, refl, refl)

-- 1 + 2^-24 gives 1, a tie to the even one; 1 + 3 x 2^-24 gives 1 + 2^-22
pub row_14 : (narrow (fin false (2 ^ 24 + 1) (negsuc 23)) ≡ fin false 1 (pos 0)) × (narrow (fin false (2 ^ 24 + 3) (negsuc 23)) ≡ fin false (2 ^ 22 + 1) (negsuc 21))
unfolding narrow round
row_14 = (refl, refl)
