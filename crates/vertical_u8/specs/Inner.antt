-- What the inner functions of the u8 pass give. Cited by their contracts only; the pass's own contract cites U8.antt. Definitions only. Assumes nothing.
use Rattle.std.specs.Prelude.{Bool, List, ℕ, ◌+◌, ◌*◌, ℤ, pos, get_or}
use Rattle.vertical_u8.specs.U8.{heavy}

-- window i's weights in use, in the set's slots
abbrev pub slot_heavy : ℕ → List ℤ → List ℕ → ℕ → ℕ → Bool
slot_heavy window weights sizes p i = heavy p (λ k. get_or weights (i * window + k) (pos 0)) (get_or sizes i 0)
