-- A product of flags is a zero exactly when each is. Assumes nothing.
use Prim.Native.Nat.{ℕ, ◌<◌}
use lib.Dec.{T}
use lib.ListN.{get_or}
use lib.Ieee.{nan}
use Rattle.finite_f32.specs.Scan.{is_zero_value, flag}
use Rattle.finite_f32.proofs.scan.all_zero.Given as goal

abbrev pub invariant-loop-lane : goal.invariant-loop-lane
invariant-loop-lane l = T (flag l.z)
    × (T (is_zero_value l.z) → (x : ℕ) → x < l.lane-index → T (is_zero_value (get_or l.fn.zz x nan)))
    × (((x : ℕ) → x < l.lane-index → T (is_zero_value (get_or l.fn.zz x nan))) → T (is_zero_value l.z))
