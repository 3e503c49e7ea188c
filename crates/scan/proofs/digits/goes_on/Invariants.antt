-- `digits::goes_on` meets its contract: before turn j the numbers with fewer than j digits more are all below `low`. Assumes nothing.
use mathlib.Core.Path.{◌≡◌}
use Prim.Native.Nat.{ℕ, ◌+◌, ◌*◌, ◌-◌, ◌^◌, ◌≤◌, ◌<◌}
use Rattle.scan.proofs.digits.goes_on.Given as goal

-- `least` is n with j digits 0 more, and `past` the number after n with j digits 9 more
pub record Turn (low n least past : ℕ) : Type 0 where
  pub j : ℕ
  pub some : 1 ≤ least
  pub from : least ≡ n * 10 ^ j
  pub to : past ≡ n * 10 ^ j + 10 ^ j
  pub below : (i : ℕ) → i < j → n * 10 ^ i + 10 ^ i ≤ low

abbrev pub invariant-loop-least : goal.invariant-loop-least
invariant-loop-least l = Turn l.low l.n l.least l.past

abbrev pub decreases-loop-least : goal.decreases-loop-least
decreases-loop-least l = l.high + 1 - l.least
