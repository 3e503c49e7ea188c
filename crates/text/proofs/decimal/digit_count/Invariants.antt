-- `decimal::digit_count` meets its contract: the search goes on while something is left above the last k digits. Assumes nothing.
use mathlib.Core.Path.{◌≡◌}
use mathlib.Core.Bool.{Bool}
use Prim.Native.Nat.{ℕ, ◌≤◌, ◌-◌, ◌/◌, ◌^◌}
use lib.Dec.{eqb}
use Rattle.lists.specs.Tab.{first}
use Rattle.text.specs.Text.{digit_count_value}
use Rattle.text.proofs.decimal.digit_count.Given as goal

-- nothing is left above the last k decimal
unfoldable pub gone : ℕ → ℕ → Bool
gone n k = eqb (n / 10 ^ k) 0

abbrev pub invariant-loop-k : goal.invariant-loop-k
invariant-loop-k l = (l.k ≤ 20) × (l.m ≡ l.n / 10 ^ l.k) × (digit_count_value l.n ≡ first (gone l.n) l.k (20 - l.k))
