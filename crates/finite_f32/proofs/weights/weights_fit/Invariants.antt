-- The weights of the first i windows are small enough; the loop ends early at a window that has one that is not. Assumes nothing.
use Prim.Native.Nat.{ℕ, ◌^◌, ◌<◌, ◌*◌, ◌+◌}
use lib.ListN.{get_or}
use lib.Ieee.{nan}
use Rattle.floats.specs.Within.{AtMost}
use Rattle.finite_f32.proofs.weights.weights_fit.Given as goal

abbrev pub invariant-loop-i : goal.invariant-loop-i
invariant-loop-i l = (x : ℕ) → x < l.i → (k : ℕ) → k < get_or l.sizes x 0 → AtMost (get_or l.ws (x * l.window + k) nan) (2 ^ 64)
