-- The rows before y are done; a turn does the next strip. Assumes nothing.
use mathlib.Core.Path.{◌≡◌}
use Prim.Native.Nat.{ℕ, ◌+◌, ◌*◌, ◌-◌, ◌<◌, ◌≤◌}
use lib.ListN.{length, get_or}
use Rattle.pixels_u16.specs.Places.{row_values}
use Rattle.pixels_u16.proofs.strips.fill_rows.Given as goal

abbrev pub invariant-loop-y : goal.invariant-loop-y
invariant-loop-y l = (l.y ≤ l.count)
    × (l.a ≡ (l.first + l.y) * l.row)
    × (l.b ≡ l.y * (length l.starts * l.components))
    × (length l.out ≡ length l.initial.out)
    × ((x : ℕ) → x < l.b → get_or l.out x 0 ≡ row_values l.src (l.first * l.row) l.components l.row l.starts l.sizes l.window l.weights l.p x)

abbrev pub decreases-loop-y : goal.decreases-loop-y
decreases-loop-y l = l.count - l.y
