-- One colour multiplied and divided by one alpha, 16 bits: `alpha`'s definitions at the largest component 65535 and the scale 2^33, and what is promised of the
-- division. Cited by the contracts of `alpha_u16` and by its theorems. Definitions only. Assumes nothing.
use Rattle.std.specs.Prelude.{◌≡◌, ℕ, ◌+◌, ◌*◌, ◌^◌, min, ◌≤◌}
use Rattle.integers.specs.Nearest.{nearest, Nearest}
use Rattle.colours.specs.Alpha.{multiplied_over, reciprocal_over, quotient_over}

-- the whole number nearest to colour x alpha / 65535 (no tie can occur: `multiplied_nearest`)
abbrev pub multiplied : ℕ → ℕ → ℕ
multiplied colour alpha = multiplied_over 65535 colour alpha

-- 65535 x 2^33 / alpha, a half going up; 0 for alpha 0
abbrev pub reciprocal : ℕ → ℕ
reciprocal alpha = reciprocal_over 65535 (2 ^ 33) alpha

-- (colour x recip + 2^32) / 2^33 rounded down, at most 65535
abbrev pub quotient : ℕ → ℕ → ℕ
quotient colour recip = quotient_over 65535 (2 ^ 33) colour recip

-- divided by the reciprocal
abbrev pub divided : ℕ → ℕ → ℕ
divided colour alpha = quotient colour (reciprocal alpha)

-- x / d lies in the middle between two whole numbers. Said of 2 x and 2 d, so that nothing is divided
pub record Half (x d : ℕ) : Type 0 where
  pub lower : ℕ
  pub middle : 2 * x ≡ 2 * (d * lower) + d

-- what is promised of the division: the whole number nearest to the quotient colour x 65535 / alpha, capped at 65535, and at a half one of its
-- two neighbours. `alone` says besides that off a half no other number is as near
pub record Divides (colour alpha : ℕ) : Type 0 where
  pub nearest_off_halves : (Half (colour * 65535) alpha → ⊥) → divided colour alpha ≡ min (nearest (colour * 65535) alpha) 65535
  pub alone : (Half (colour * 65535) alpha → ⊥) → colour ≤ alpha → Nearest (colour * 65535) alpha (divided colour alpha)
  pub neighbour : (h : Half (colour * 65535) alpha) → (min h.lower 65535 ≤ divided colour alpha) × (divided colour alpha ≤ min (h.lower + 1) 65535)
