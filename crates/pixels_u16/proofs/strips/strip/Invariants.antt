-- After i windows each of their pixels stands in its place of all the strip's rows; `WindowThere` says that all of the next one's indices are there. Assumes nothing.
use mathlib.Core.Path.{◌≡◌}
use Prim.Native.Nat.{◌+◌, ◌*◌}
use lib.ListN.{length}
use Rattle.pixels_u16.proofs.StripLaws.{Windows}
use Rattle.pixels_u16.proofs.strips.strip.Given as goal

abbrev pub invariant-loop-i : goal.invariant-loop-i
invariant-loop-i l = (l.o ≡ l.b + l.i * l.components)
    × (length l.out ≡ length l.initial.out)
    × Windows l.src l.a l.components l.row l.weights l.starts l.sizes l.window l.p l.initial.out l.b l.n l.i l.out
