-- `digits::bounded` meets its contract: after k turns the sum is the number of k digits, and at most `most`; a number that passed it once does not come
-- back (`numeral_grows`). Assumes nothing.
use mathlib.Core.Path.{◌≡◌}
use Prim.Native.Nat.{◌≤◌}
use Rattle.numerals.specs.Digits.{numeral}
use Rattle.numerals.proofs.digits.bounded.Given as goal

abbrev pub invariant-loop-k : goal.invariant-loop-k
invariant-loop-k l = (l.k ≤ l.n) × (l.sum ≡ numeral l.base l.text l.a 0 l.k) × (l.sum ≤ l.most)
