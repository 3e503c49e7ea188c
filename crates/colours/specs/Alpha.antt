-- One colour multiplied and divided by one alpha, over the largest component M and the scale S of the reciprocal, and at 8 bits, where they are 255 and 2^8.
-- Cited by the contracts of `alpha`, at 65535 and 2^33 by those of `alpha_u16`, and by the promises. Definitions only. Assumes nothing.
use Rattle.std.specs.Prelude.{cond, ℕ, ◌+◌, ◌*◌, ◌/◌, min, eqb}
use Rattle.integers.specs.Nearest.{nearest}

-- the whole number nearest to colour x alpha / M (no tie can occur where M is 2^n - 1: `multiplied_over_fact`)
abbrev pub multiplied_over : ℕ → ℕ → ℕ → ℕ
multiplied_over M colour alpha = nearest (colour * alpha) M

-- M x S / alpha, a half going up; 0 for alpha 0
abbrev pub reciprocal_over : ℕ → ℕ → ℕ → ℕ
reciprocal_over M S alpha = cond (eqb alpha 0) 0 (nearest (M * S) alpha)

-- (colour x recip + S / 2) / S rounded down, at most M
abbrev pub quotient_over : ℕ → ℕ → ℕ → ℕ → ℕ
quotient_over M S colour recip = min ((colour * recip + S / 2) / S) M

-- 8 bits: the nearest to colour x alpha / 255
abbrev pub multiplied : ℕ → ℕ → ℕ
multiplied colour alpha = multiplied_over 255 colour alpha

-- 65280 / alpha, a half going up; 0 for alpha 0
abbrev pub reciprocal : ℕ → ℕ
reciprocal alpha = reciprocal_over 255 256 alpha

-- (colour x recip + 128) / 256 rounded down, at most 255
abbrev pub quotient : ℕ → ℕ → ℕ
quotient colour recip = quotient_over 255 256 colour recip

-- divided by the reciprocal: not always the quotient's nearest whole number
abbrev pub divided : ℕ → ℕ → ℕ
divided colour alpha = quotient colour (reciprocal alpha)
