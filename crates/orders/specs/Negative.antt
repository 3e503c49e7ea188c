-- Whether a weight is negative, and whether one of n weights is. Cited by the promise that there is no ringing; a count of windows with a negative weight is over
-- the same test. Definitions only. Assumes nothing.
use Rattle.std.specs.Prelude.{Bool, ℕ, ℤ, pos}
use Rattle.std.specs.Int.Signed.{lt_z}
use Rattle.lists.specs.Tab.{any}

-- below 0
abbrev pub negative : ℤ → Bool
negative w = lt_z w (pos 0)

-- one of w 0, w 1, .., w (n - 1) is
abbrev pub some_negative_value : (ℕ → ℤ) → ℕ → Bool
some_negative_value w n = any n (λ k. negative (w k))
