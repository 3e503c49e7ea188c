-- After k turns none of the first k bytes is alien; the first that is decides the answer. Assumes nothing.
use mathlib.Core.Path.{◌≡◌}
use mathlib.Core.Bool.{false}
use Prim.Native.Nat.{◌≤◌}
use Rattle.lists.specs.Tab.{any}
use Rattle.numerals.specs.Digits.{alien}
use Rattle.numerals.proofs.digits.all_digits.Given as goal

abbrev pub invariant-loop-k : goal.invariant-loop-k
invariant-loop-k l = (l.k ≤ l.n) × (any l.k (alien l.base l.text l.a) ≡ false)
