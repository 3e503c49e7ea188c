-- After k turns the first k samples are counted (`infinities_more`). Assumes nothing.
use mathlib.Core.Path.{◌≡◌}
use Prim.Native.Nat.{◌≤◌}
use lib.ListN.{take}
use Rattle.vertical.specs.F32.{infinities}
use Rattle.finite_f32.proofs.count.infinities.Given as goal

abbrev pub invariant-loop-sample : goal.invariant-loop-sample
invariant-loop-sample l = (l.n ≤ l.sample-index) × (l.n ≡ infinities (take l.sample-index l.out))
