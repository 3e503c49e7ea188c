-- Computed: the Rust's one wrong pair (32769 by alpha 1), and halves that go either way, so that neither rule may be claimed for them. Assumes nothing.
use mathlib.Core.Path.{◌≡◌, refl}
use Prim.Native.Nat.{◌*◌}
use Rattle.colours_u16.specs.Alpha.{multiplied, divided, Half}

pub examples :
    (divided 32769 1 ≡ 65535)
    × (divided 1 0 ≡ 0)
    × (divided 1 2 ≡ 32768)
    × (divided 13 26 ≡ 32767)
    × (multiplied 65535 65535 ≡ 65535)
    × (multiplied 32768 32768 ≡ 16384)
examples = (refl, refl, refl, refl, refl, refl)

-- 1 / 2 and 13 / 26 are the same half, between 32767 and 32768
pub half_1_2 : Half (1 * 65535) 2
half_1_2 = record { lower = 32767; middle = refl }

pub half_13_26 : Half (13 * 65535) 26
half_13_26 = record { lower = 32767; middle = refl }
