-- A whole number of halves as a double, and the powers of two from 2^52 on. Cited by the contracts of sums that are kept in doubles.
-- Definitions only. Assumes nothing.
use Rattle.std.specs.Prelude.{true, false, ℕ, suc, ◌+◌, ◌*◌, ◌^◌, ℤ, pos, negsuc, Float}
use Rattle.std.specs.Float.{binary64}
use Rattle.std.specs.Float.Ieee.{round, of_bits}

-- the double nearest to z / 2
unfoldable pub halves : ℤ → Float
halves (pos n) = round binary64 false n 2
halves (negsuc n) = round binary64 true (suc n) 2

-- 2^(52 + p), by its pattern: the exponent is that of 2^52 and p more
abbrev pub far : ℕ → Float
far p = of_bits binary64 (0x4330_0000_0000_0000 + p * 2 ^ 52)
