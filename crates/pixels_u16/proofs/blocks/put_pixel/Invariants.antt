-- After k turns the first k samples are put; a turn stores one more. Assumes nothing.
use mathlib.Core.Path.{◌≡◌}
use lib.ListN.{length}
use Rattle.pixels_u16.specs.Places.{sample_from, behind, Put}
use Rattle.pixels_u16.proofs.blocks.put_pixel.Given as goal

abbrev pub invariant-loop-k : goal.invariant-loop-k
invariant-loop-k l = (length l.out ≡ length l.initial.out) × Put (sample_from l.samples l.from) (behind l.o) l.k l.initial.out l.out
