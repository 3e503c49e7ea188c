-- `write`: after k turns the first k slots are written. Assumes nothing.
use Rattle.std.proofs.Common.{◌≤◌, length}
use Rattle.lists.proofs.TabLaws.{Written}
use Rattle.weight_slots.specs.Slots.{slot_at}
use Rattle.weight_slots.proofs.slots.write.Given as goal

abbrev pub invariant-loop-k : goal.invariant-loop-k
invariant-loop-k g l =
    let weight = g.W.Weight in
    (l.k ≤ length l.weights) × Written l.k (slot_at weight.STORE l.p l.window_size l.weights l.sizes) (weight.values l.initial.out) (weight.values l.out)
