-- The same over lines. Where `from` is past `to` nothing is read, so the invariant bounds how far y is past `to`. Assumes nothing.
use mathlib.Core.Path.{◌≡◌}
use Prim.Native.Nat.{ℕ, ◌-◌, ◌≤◌, ◌<◌, ◌*◌, ◌+◌}
use lib.ListN.{length}
use Rattle.finite_f32.specs.Scan.{Zeros, Flags, Small, Finite}
use Rattle.finite_f32.proofs.scan.lines16.Given as goal

abbrev pub invariant-loop-y : goal.invariant-loop-y
invariant-loop-y l = (length l.zz ≡ 16)
    × Flags 16 l.zz
    × (Zeros 16 l.zz → Zeros 16 l.initial.zz)
    × (Zeros 16 l.zz → (x : ℕ) → l.from ≤ x → x < l.y → Small l.src (x * l.row + l.first) 0 (l.n * 16))
    × (Zeros 16 l.initial.zz → ((x : ℕ) → l.from ≤ x → x < l.y → Finite l.src (x * l.row + l.first) 0 (l.n * 16)) → Zeros 16 l.zz)
    × (l.y - l.to ≤ l.from - l.to)
