-- How many numbers pass a test. Cited by the definitions of offers and by the laws on sums. Definitions only. Assumes nothing.
use Rattle.std.specs.Prelude.{Bool, cond, ℕ, zero, suc, ◌+◌}

-- of the numbers below n
abbrev pub count : (ℕ → Bool) → ℕ → ℕ
count t zero = 0
count t (suc n) = count t n + cond (t n) 1 0
