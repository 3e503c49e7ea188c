-- After i turns `bad` says whether one of the first i windows is bad; a turn more is one step of `any`. Assumes nothing.
use Prim.Native.Nat.{◌-◌, ◌≤◌}
use mathlib.Core.Path.{◌≡◌}
use lib.ListN.{length}
use Rattle.lists.specs.Tab.{any}
use Rattle.windows.specs.Set.{layout_of}
use Rattle.windows.specs.Fit.{bad_at}
use Rattle.windows.proofs.counts.some_misfits.Given as goal

abbrev pub invariant-loop-i : goal.invariant-loop-i
invariant-loop-i l = (l.i ≤ length l.starts) × (l.bad ≡ any l.i (bad_at (layout_of l.lines l.window_size l.starts l.sizes)))
