-- `lead` meets its contract: the loop keeps the search open from x on. Assumes nothing.
use Prim.Native.Nat.{◌-◌, ◌≤◌, max}
use mathlib.Core.Path.{◌≡◌}
use Rattle.lists.specs.Tab.{first}
use Rattle.line_weights.specs.Weights.{lead_of, weighs}
use Rattle.line_weights.proofs.weights.lead.Given as goal

abbrev pub invariant-loop-x : goal.invariant-loop-x
invariant-loop-x l = (l.x ≤ max l.start.0 l.stop.0) × (lead_of l.f l.c l.recip l.start.0 l.stop.0 ≡ first (weighs l.f l.c l.recip) l.x (l.stop.0 - l.x))
