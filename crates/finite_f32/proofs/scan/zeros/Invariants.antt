-- Lanes that are zeros after q turns tell of q times sixteen finite samples, and the other way. Assumes nothing.
use mathlib.Core.Path.{◌≡◌}
use Prim.Native.Nat.{◌*◌}
use lib.ListN.{length}
use Rattle.finite_f32.specs.Scan.{Zeros, Flags, Small, Finite}
use Rattle.finite_f32.proofs.scan.zeros.Given as goal

abbrev pub invariant-loop-q : goal.invariant-loop-q
invariant-loop-q l = (length l.zz ≡ 16)
    × Flags 16 l.zz
    × (Zeros 16 l.zz → Zeros 16 l.initial.zz)
    × (Zeros 16 l.zz → Small l.src l.at 0 (l.q * 16))
    × (Zeros 16 l.initial.zz → Finite l.src l.at 0 (l.q * 16) → Zeros 16 l.zz)
