-- After t turns the first t lanes have their sample, the others are as they were. Assumes nothing.
use mathlib.Core.Path.{◌≡◌}
use Prim.Native.Nat.{ℕ, ◌≤◌, ◌<◌, ◌+◌}
use lib.Dec.{T}
use lib.ListN.{length, get_or}
use lib.Ieee.{binary32, nan, mul, fits}
use Rattle.finite_f32.proofs.scan.zero_steps.Given as goal

abbrev pub invariant-loop-t : goal.invariant-loop-t
invariant-loop-t g l = (length l.r ≡ g.row.N)
    × ((x : ℕ) → x < l.t → get_or l.r x nan ≡ mul binary32 (get_or l.initial.r x nan) (get_or l.src (l.at + x) nan))
    × ((x : ℕ) → x < l.t → T (fits binary32 (get_or l.src (l.at + x) nan)))
    × ((x : ℕ) → l.t ≤ x → get_or l.r x nan ≡ get_or l.initial.r x nan)
