-- What the machine reads back of a number in range, and of its shift, for sums of 64 and of 32 bits. Cited by the workers of the u16 and the u8 pass. Assumes nothing.
use mathlib.Core.Path.{◌≡◌}
use Prim.Native.Nat.{ℕ, ◌^◌, ◌<◌}
use native.Mathlib.Nat.{lt_of_le_of_lt}
use lib.IntN.{ℤ}
use lib.Signed.{mag, shr_z, mag_shr}
use mir.Facts.{to_z-of_z}
use mir.Syntax.{Width, w32, w64}
use mir.Val.{SFits, to_z, of_z}

pub back64 : {z : ℤ} → mag z < 2 ^ 63 → to_z w64 (of_z w64 z) ≡ z
back64 h = to_z-of_z {w = w64} (record { sfits = h })

pub back32 : {z : ℤ} → mag z < 2 ^ 31 → to_z w32 (of_z w32 z) ≡ z
back32 h = to_z-of_z {w = w32} (record { sfits = h })

pub back_shift : (w : Width) (z : ℤ) (m : ℕ) → SFits w z → to_z w (of_z w (shr_z (to_z w (of_z w z)) m)) ≡ shr_z z m
back_shift w z m h = rw (to_z-of_z h) (to_z-of_z (record { sfits = lt_of_le_of_lt (mag_shr z m) h.sfits }))
