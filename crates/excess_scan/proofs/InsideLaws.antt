-- A weight inside its store's limits: it fits its type, and it is small. Cited by the functions that read weights again. Assumes nothing.
use Prim.Native.Nat.{ℕ, ◌^◌, ◌≤◌}
use native.Mathlib.Omega.{arith}
use lib.IntN.{ℤ, pos, negsuc, nat_abs}
use mir.Syntax.{Width}
use mir.Val.{SFits, hbits}
use Rattle.scan.specs.Number.{Inside}

pub inside_fits : (w : Width) (limit : ℕ) (v : ℤ) → limit ≤ 2 ^ hbits w → Inside limit v → SFits w v
inside_fits w limit (pos n) l good = record { sfits = omega arith }
inside_fits w limit (negsuc n) l good = record { sfits = omega arith }

pub inside_small : (limit : ℕ) (v : ℤ) → limit ≤ 2 ^ 31 → Inside limit v → nat_abs v ≤ 2 ^ 31
inside_small limit (pos n) l good = omega arith
inside_small limit (negsuc n) l good = omega arith
