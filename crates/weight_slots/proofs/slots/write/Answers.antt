-- `write`: the goals that the check leaves; the argument stands in Invariants.antt. Assumes nothing.
use Rattle.std.proofs.Common.{Bool, cond, length, get_or, pos, ap, ◌∙◌, arith}
use Rattle.lists.proofs.TabLaws.{written_none}
use Rattle.lists.proofs.AnyLaws.{any_none}
use Rattle.weight_precision.specs.Weights.{leaves}
use lib.Ieee.{nan}
use Rattle.weight_precision.specs.Precision.{integer}
use Rattle.windows.proofs.WeightLaws.{values_more}
use Rattle.weight_slots.proofs.slots.write.Goals as goal

pub loop-k-init : goal.loop-k-init
loop-k-init g c = (omega arith, written_none)

pub slot-requires : goal.slot-requires
slot-requires g c =
    let stays = any_none (leaves g.W.Weight.STORE c.args.p c.args.window_size c.args.weights.now c.args.sizes.now) (length c.args.weights.now) c.requires.fact_5 c.loop-k.k (omega arith) in
    record { fact_1 = c.requires.fact_1; fact_2 = rw c.in_use.ensures stays }

pub loop-k-preserved : goal.loop-k-preserved
loop-k-preserved g c =
    let value = c.slot.ensures ∙ ap (λ (used : Bool). cond used (integer g.W.Weight.STORE c.args.p (get_or c.args.weights.now c.loop-k.k nan)) (pos 0)) c.in_use.ensures in
    (omega arith, values_more g.met.W.Weight.each c.loop-k.invariant.1 (omega (arith, c.requires.fact_4)) value)
