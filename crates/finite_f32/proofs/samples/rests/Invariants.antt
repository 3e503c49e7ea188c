-- The argument of `lines16`, in one lane. Assumes nothing.
use Prim.Native.Nat.{ℕ, ◌-◌, ◌≤◌, ◌<◌, ◌*◌, ◌+◌}
use lib.Dec.{T}
use Rattle.finite_f32.specs.Scan.{is_zero_value, flag, Small, Finite}
use Rattle.finite_f32.proofs.samples.rests.Given as goal

abbrev pub invariant-loop-y : goal.invariant-loop-y
invariant-loop-y l = T (flag l.z)
    × (T (is_zero_value l.z) → T (is_zero_value l.z0))
    × (T (is_zero_value l.z) → (x : ℕ) → l.from ≤ x → x < l.y → Small l.src (x * l.row + l.first) l.start l.count)
    × (T (is_zero_value l.z0) → ((x : ℕ) → l.from ≤ x → x < l.y → Finite l.src (x * l.row + l.first) l.start l.count) → T (is_zero_value l.z))
    × (l.y - l.to ≤ l.from - l.to)
