-- What the inner functions of `numbers` ask and compute. Cited by their contracts only; no public contract rests on it.
-- Definitions only. Assumes nothing.
use Rattle.std.specs.Prelude.{ℕ, ◌+◌, ◌-◌, ◌*◌, ◌/◌, ◌%◌, ◌^◌, min, cond, ◌==◌, nat_le, nat_lt}
use Rattle.std.specs.Float.Ieee.Nearest.{closest}

-- the unit's place among the digits of a pattern p with no sign, from 1 to below 2 ^ 52
abbrev pub unit_of : ℕ → ℕ
unit_of p = 2 ^ (1075 - p / 2 ^ 52)

-- the pattern of the whole size that a direction gives: p itself from 2 ^ 52 on; from 1 on, `more` for the unit is added and what is below the unit dropped;
-- `below` under 1
abbrev pub whole_size : (ℕ → ℕ) → (ℕ → ℕ) → ℕ → ℕ
whole_size below more p = cond (nat_le 0x4330_0000_0000_0000 p) p (cond (nat_le 0x3ff0_0000_0000_0000 p) ((p + more (unit_of p)) / unit_of p * unit_of p) (below p))

-- cut, raised, and to the nearest, a half going up
abbrev pub cut_below : ℕ → ℕ
cut_below p = 0

abbrev pub raised_below : ℕ → ℕ
raised_below p = cond (p == 0) 0 0x3ff0_0000_0000_0000

abbrev pub nearest_below : ℕ → ℕ
nearest_below p = cond (nat_lt p 0x3fe0_0000_0000_0000) 0 0x3ff0_0000_0000_0000

abbrev pub cut_more : ℕ → ℕ
cut_more u = 0

abbrev pub raised_more : ℕ → ℕ
raised_more u = u - 1

abbrev pub nearest_more : ℕ → ℕ
nearest_more u = u / 2

unfoldable pub cut_size_value : ℕ → ℕ
cut_size_value p = whole_size cut_below cut_more p

unfoldable pub raised_size_value : ℕ → ℕ
raised_size_value p = whole_size raised_below raised_more p

unfoldable pub nearest_size_value : ℕ → ℕ
nearest_size_value p = whole_size nearest_below nearest_more p

-- the binary32 pattern of a binary64 pattern p with no sign, X being the exponent's field and t the digits: normal or too large, subnormal, zero
abbrev pub narrow_at : ℕ → ℕ → ℕ → ℕ
narrow_at p X t = cond (nat_le 897 X) (min (closest (p - 0x3800_0000_0000_0000) (2 ^ 29)) 0x7f80_0000) (cond (nat_le 873 X) (closest (2 ^ 52 + t) (2 ^ (926 - X))) 0)

-- the same of p alone
unfoldable pub narrow_size_value : ℕ → ℕ
narrow_size_value p = narrow_at p (p / 2 ^ 52) (p % 2 ^ 52)
