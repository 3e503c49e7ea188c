-- `trim` meets its contract: going down, the slots from k on hold zeros only, so `up_to` of n is `up_to` of k. Assumes nothing.
use Prim.Native.Nat.{◌≤◌}
use mathlib.Core.Path.{◌≡◌}
use Rattle.line_weights.specs.Weights.{up_to}
use Rattle.line_weights.specs.Weights.{weighty}
use Rattle.line_weights.proofs.weights.trim.Given as goal

abbrev pub invariant-loop-k : goal.invariant-loop-k
invariant-loop-k l = (l.k ≤ l.n) × (up_to (weighty l.row) l.n ≡ up_to (weighty l.row) l.k)

abbrev pub decreases-loop-k : goal.decreases-loop-k
decreases-loop-k l = l.k
