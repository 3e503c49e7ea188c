-- After y turns the pixels of the first y rows are put. Assumes nothing.
use mathlib.Core.Path.{◌≡◌}
use Prim.Native.Nat.{◌*◌}
use lib.ListN.{length}
use Rattle.pixels_u16.specs.Places.{place_at, sample_of, Put}
use Rattle.pixels_u16.proofs.blocks.put_pixels.Given as goal

abbrev pub invariant-loop-y : goal.invariant-loop-y
invariant-loop-y l = (length l.out ≡ length l.initial.out) × Put (sample_of l.samples) (place_at l.o0 l.components l.wide) (l.y * l.components) l.initial.out l.out
