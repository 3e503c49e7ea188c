-- After t turns the first t sums have the weight's part, the others are as they were. Assumes nothing.
use Rattle.lists.proofs.TabLaws.{Written}
use Rattle.pixels_u16.specs.Places.{added_at}
use Rattle.pixels_u16.proofs.sums.add_pixels.Given as goal

abbrev pub invariant-loop-t : goal.invariant-loop-t
invariant-loop-t l = Written l.t (added_at l.initial.ss l.w l.src l.at l.components l.row) l.initial.ss l.ss
