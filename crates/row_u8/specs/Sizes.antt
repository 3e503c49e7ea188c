-- The sizes of a window's weights. Cited by what `row_u8` asks, and by No. 9 of the u8 pass. Definitions only. Assumes nothing.
use Rattle.std.specs.Prelude.{ℕ, ◌+◌, ℤ, nat_abs}
use Rattle.lists.specs.Tab.{turns}

-- the sizes of n weights, added up
unfoldable pub sizes_total_value : (ℕ → ℤ) → ℕ → ℕ
sizes_total_value w n = turns (λ t k. t + nat_abs (w k)) 0 n
