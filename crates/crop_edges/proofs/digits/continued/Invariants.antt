-- After k turns the sum is the number continued by k digits, which has room (`numeral_room`). Assumes nothing.
use Rattle.std.proofs.Common.{◌≡◌, ◌≤◌}
use Rattle.numerals.specs.Digits.{numeral}
use Rattle.crop_edges.proofs.digits.continued.Given as goal

abbrev pub invariant-loop-k : goal.invariant-loop-k
invariant-loop-k l = (l.k ≤ l.n) × (l.sum ≡ numeral l.base l.text l.a l.v l.k)
