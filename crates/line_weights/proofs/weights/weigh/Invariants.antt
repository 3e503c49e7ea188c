-- `weigh` meets its contract: the first weight is known, and the loop has written k weights and added them in line order. Assumes nothing.
use Prim.Native.Nat.{◌≤◌}
use mathlib.Core.Path.{◌≡◌}
use Rattle.lists.specs.Tab.{turns}
use Rattle.lists.proofs.TabLaws.{Written}
use Rattle.floats.specs.Doubles.{zero64}
use Rattle.line_weights.specs.Weights.{weight_from, add_to}
use Rattle.line_weights.proofs.weights.weigh.Given as goal

abbrev pub invariant-loop-k : goal.invariant-loop-k
invariant-loop-k l = (l.k ≤ l.n) × (l.total ≡ turns (add_to l.f l.c l.recip l.a.line.0) zero64 l.k) × Written l.k (weight_from l.f l.c l.recip l.a.line.0) l.initial.row l.row
