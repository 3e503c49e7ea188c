-- The pattern stays below the infinity's. Assumes nothing.
use mathlib.Core.Path.{◌≡◌}
use mathlib.Core.Bool.{not}
use Prim.Native.Nat.{ℕ, ◌+◌, ◌*◌, ◌^◌, ◌≤◌}
use native.Mathlib.Omega.{arith}
use lib.Dec.{T}
use lib.Ieee.{binary64, nan_bits}
use Rattle.floats.proofs.Codes.{no_nan_code}
use Rattle.row_u16.proofs.rounding.scaled.Goals as goal

number : (b p : ℕ) {q : ℕ} → b ≤ 0x43ff_ffff_ffff_ffff → p ≤ 45 → q ≡ p → T (not (nan_bits binary64 (b + q * 2 ^ 52)))
number b p {q} h l e = no_nan_code binary64 (b + q * 2 ^ 52) (omega arith)

pub float_from_bits-result : goal.float_from_bits-result
float_from_bits-result c = number c.args.b c.args.p c.requires.0 c.requires.1 c.wide.ensures
