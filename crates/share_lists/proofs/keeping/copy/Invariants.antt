-- `keeping::copy` meets its contract: before turn k the first k are laid. Assumes nothing.
use mathlib.Core.Path.{◌≡◌}
use Prim.Native.Nat.{◌≤◌}
use lib.ListN.{length, take}
use Rattle.text.specs.Text.{laid}
use Rattle.share_lists.proofs.keeping.copy.Given as goal

abbrev pub invariant-loop-k : goal.invariant-loop-k
invariant-loop-k l = (l.k ≤ l.n) × (length l.out ≡ length l.initial.out) × (l.out ≡ laid l.initial.out l.at (take l.k l.src))
