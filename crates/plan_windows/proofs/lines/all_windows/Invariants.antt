-- `all_windows` meets its contract. The loop keeps three lists written up to line k and the search for the first blank line open from k on; a blank line
-- zeroes all three, and `front_over` says that what was written before does not matter. The hard need is `row_done`, the row put back. Assumes nothing.
use mathlib.Core.Path.{◌≡◌}
use Prim.Native.Nat.{◌≤◌, ◌-◌, ◌*◌}
use Rattle.lists.specs.Tab.{first, grid}
use Rattle.lists.proofs.TabLaws.{Written}
use Rattle.plan_windows.specs.Lines.{slot, lead, size, blank, first_blank}
use Rattle.plan_windows.proofs.lines.all_windows.Given as goal

abbrev pub invariant-loop-k : goal.invariant-loop-k
invariant-loop-k l = (l.k ≤ l.n) × (l.a ≡ l.k * l.w) × Written l.a (grid l.p.window (slot l.p)) l.initial.weights l.weights × Written l.k (lead l.p) l.initial.starts l.starts × Written l.k (size l.p) l.initial.sizes l.sizes × (first_blank l.p ≡ first (blank l.p) l.k (l.n - l.k))
