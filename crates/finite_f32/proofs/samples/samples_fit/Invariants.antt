-- Lines lo to hi are scanned; a window goes on from where they end, if it starts among them. At the end the lanes tell of every line of every window. Assumes nothing.
use mathlib.Core.Path.{◌≡◌}
use Prim.Native.Nat.{ℕ, ◌^◌, ◌≤◌, ◌<◌, ◌*◌, ◌+◌}
use lib.Dec.{T}
use lib.ListN.{length, get_or}
use lib.Ieee.{nan}
use lib.Ieee.Scale.{finite}
use Rattle.floats.specs.Within.{AtMost}
use Rattle.finite_f32.specs.Scan.{is_zero_value, flag, Zeros, Flags, Small}
use Rattle.finite_f32.proofs.samples.samples_fit.Given as goal

abbrev pub invariant-loop-i : goal.invariant-loop-i
invariant-loop-i l = (length l.zz ≡ 16)
    × Flags 16 l.zz
    × T (flag l.z)
    × (Zeros 16 l.zz → T (is_zero_value l.z) → (y : ℕ) → l.lo ≤ y → y < l.hi → Small l.src (y * l.row + l.first) 0 l.count)
    × (Zeros 16 l.zz → T (is_zero_value l.z) → (x : ℕ) → x < l.i → (k : ℕ) → k < get_or l.sizes x 0 → (t : ℕ) → t < l.count → AtMost (get_or l.src ((get_or l.starts x 0 + k) * l.row + l.first + t) nan) (2 ^ 128))
    × (((x : ℕ) → x < l.i → (k : ℕ) → k < get_or l.sizes x 0 → (t : ℕ) → t < l.count → T (finite (get_or l.src ((get_or l.starts x 0 + k) * l.row + l.first + t) nan))) → Zeros 16 l.zz × T (is_zero_value l.z))
