-- `sums::write_excesses` meets its contract: before turn i the first i excesses are written. Assumes nothing.
use Prim.Native.Nat.{◌≤◌}
use lib.ListN.{length}
use Rattle.lists.proofs.TabLaws.{Written}
use Rattle.excesses.specs.Slots.{excess_in}
use Rattle.excesses.proofs.sums.write_excesses.Given as goal

abbrev pub invariant-loop-i : goal.invariant-loop-i
invariant-loop-i g l = (l.i ≤ length l.sizes) × Written l.i (excess_in l.p l.window (g.W.Weight.values l.weights) l.sizes) l.initial.out l.out
