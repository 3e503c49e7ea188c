-- After k turns the sums are those of the first k lines. Assumes nothing.
use Rattle.row_f32.specs.Column.{Sums16}
use Rattle.row_f32.proofs.sums.first16.Given as goal

abbrev pub invariant-loop-k : goal.invariant-loop-k
invariant-loop-k l = Sums16 l.ss l.ws l.src l.at0 l.row l.k
