-- `shape::unlike` meets its contract: after k turns `bad` says whether the lists differ before k. Assumes nothing.
use mathlib.Core.Path.{◌≡◌}
use mathlib.Core.Bool.{not}
use Prim.Native.Nat.{◌≤◌}
use lib.Dec.{eqb}
use lib.ListN.{length, get_or}
use Rattle.lists.specs.Tab.{any}
use Rattle.accept_offers.proofs.shape.unlike.Given as goal

abbrev pub invariant-loop-k : goal.invariant-loop-k
invariant-loop-k l = (l.k ≤ length l.a) × (l.bad ≡ any l.k (λ k. not (eqb (get_or l.a k 0) (get_or l.b k 0))))
