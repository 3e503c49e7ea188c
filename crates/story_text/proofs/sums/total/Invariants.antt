-- `sums::total` meets its contract: after k lines `t` is the total of k products, and at most 2^47 for each. Assumes nothing.
use mathlib.Core.Path.{◌≡◌}
use Prim.Native.Nat.{◌^◌, ◌≤◌, ◌*◌}
use lib.IntN.{nat_abs}
use Rattle.integers.specs.Sums.{total}
use Rattle.excesses.specs.Slots.{slot_from}
use Rattle.story_text.specs.There.{sample_from}
use Rattle.story_text.proofs.sums.total.Given as goal

abbrev pub invariant-loop-k : goal.invariant-loop-k
invariant-loop-k l = (l.k ≤ l.size) × (l.t ≡ total (slot_from l.weights l.from) (sample_from l.src l.row l.column l.start.0) l.k) × (nat_abs (l.t) ≤ l.k * 2 ^ 47)
