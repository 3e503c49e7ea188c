-- Multiply, divide, multiply by one alpha: what is promised of the product that comes back. Cited by `alpha_three_steps`. Definitions only.
-- Assumes nothing.
use Rattle.std.specs.Prelude.{◌≡◌, ℕ, ◌+◌, ◌≤◌}
use Rattle.colours.specs.Alpha.{multiplied, divided}

-- the product that comes back after the first one is divided and multiplied again
abbrev pub again : ℕ → ℕ → ℕ
again colour alpha = multiplied (divided (multiplied colour alpha) alpha) alpha

-- up to this alpha it is the first product (the promise is not tight: alpha 172 and colour 234 are the first that differ, 158 and then 159)
abbrev pub same_up_to : ℕ
same_up_to = 157

-- the promise, for a colour and an alpha of 8 bits: the first product again up to that alpha, and within 1 of it at every alpha
pub record Steps (colour alpha : ℕ) : Type 0 where
  pub same : alpha ≤ same_up_to → again colour alpha ≡ multiplied colour alpha
  pub not_above : again colour alpha ≤ multiplied colour alpha + 1
  pub not_below : multiplied colour alpha ≤ again colour alpha + 1
