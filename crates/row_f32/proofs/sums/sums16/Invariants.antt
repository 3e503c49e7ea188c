-- The first lines, and then four a turn. Assumes nothing.
use Prim.Native.Nat.{◌+◌, ◌*◌}
use Rattle.row_f32.specs.Column.{Sums16}
use Rattle.row_f32.proofs.sums.sums16.Given as goal

abbrev pub invariant-loop-q : goal.invariant-loop-q
invariant-loop-q l = Sums16 l.ss l.ws l.src l.at0 l.row (l.first + l.q * 4)
