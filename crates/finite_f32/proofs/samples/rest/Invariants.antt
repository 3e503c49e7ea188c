-- The argument of `zeros`, in one lane. Assumes nothing.
use Prim.Native.Nat.{◌-◌, ◌≤◌}
use lib.Dec.{T}
use Rattle.finite_f32.specs.Scan.{is_zero_value, flag, Small, Finite}
use Rattle.finite_f32.proofs.samples.rest.Given as goal

abbrev pub invariant-loop-x : goal.invariant-loop-x
invariant-loop-x l = T (flag l.z)
    × (T (is_zero_value l.z) → T (is_zero_value l.z0))
    × (T (is_zero_value l.z) → Small l.src l.at l.from l.x)
    × (T (is_zero_value l.z0) → Finite l.src l.at l.from l.x → T (is_zero_value l.z))
    × (l.x - l.count ≤ l.from - l.count)
