-- What repairs the weights of one window: w are the n stored weights, v the offered ones, p the precision. Cited by the contracts of `offers` and `repairs` and by the
-- promises. Definitions only. Assumes nothing.
use Rattle.std.specs.Prelude.{◌≡◌, Bool, not, ◌||◌, ℕ, ◌^◌, ◌≤◌, ◌<◌, ltb, ℤ, pos}
use Rattle.std.specs.Int.Signed.{mag}
use Rattle.lists.specs.Tab.{any}
use Rattle.integers.specs.Sums.{distance}
use Rattle.windows.specs.Set.{excess}
use Rattle.windows.specs.Fit.{differ}

-- a type of `limit` bits and a sign, -2^limit to 2^limit - 1, holds z: `mag` of z is z, and -z - 1 where z is below 0, which `ltb` can compare
abbrev pub in_type_value : ℕ → ℤ → Bool
in_type_value limit z = ltb (mag z) (2 ^ limit)

-- each offered weight is within 1 of the stored one and inside its type, and together they have no excess
pub record Repair (limit p : ℕ) (w v : ℕ → ℤ) (n : ℕ) : Type 0 where
  pub near : (k : ℕ) → k < n → distance (v k) (w k) ≤ 1
  pub inside : (k : ℕ) → k < n → mag (v k) < 2 ^ limit
  pub exact : excess p v n ≡ pos 0

-- the same as a test that fails: weight k is farther than 1 or outside its type; one of n is, or their excess is not 0
abbrev pub bad_weight : ℕ → (ℕ → ℤ) → (ℕ → ℤ) → ℕ → Bool
bad_weight limit w v k = ltb 1 (distance (v k) (w k)) || not (in_type_value limit (v k))

abbrev pub bad_repair : ℕ → ℕ → (ℕ → ℤ) → (ℕ → ℤ) → ℕ → Bool
bad_repair limit p w v n = any n (bad_weight limit w v) || differ (excess p v n) (pos 0)

-- weight k is not as it was stored
abbrev pub changed : (ℕ → ℤ) → (ℕ → ℤ) → ℕ → Bool
changed w v k = differ (v k) (w k)
