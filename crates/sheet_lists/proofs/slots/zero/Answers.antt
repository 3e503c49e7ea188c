-- `zero`: the goals that the check leaves; the argument stands in Invariants.antt. Assumes nothing.
use mathlib.Core.Path.{◌≡◌, sym, ap, ◌∙◌}
use Prim.Native.Nat.{ℕ}
use lib.ListN.{length}
use Rattle.lists.specs.Tab.{tab, front}
use Rattle.lists.proofs.TabLaws.{written_none, front_whole}
use Rattle.windows.proofs.WeightLaws.{length_values, values_more}
use Rattle.sheet_scan.specs.Whole.{no_weight}
use native.Mathlib.Omega.{arith}
use Rattle.sheet_lists.proofs.slots.zero.Goals as goal

pub loop-slot-init : goal.loop-slot-init
loop-slot-init g c = written_none

pub loop-slot-preserved : goal.loop-slot-preserved
loop-slot-preserved g c = values_more g.met.W.Weight.each c.loop-slot.invariant (omega arith) c.from_number.ensures

pub returns : goal.returns
returns g c =
    let old = g.W.Weight.values c.args.out.now in
    let long = length_values g.met.W.Weight.each c.args.out.now in
    let all : c.loop-slot.slot-index ≡ length c.args.out.now = omega arith in
    record {
      written = c.loop-slot.invariant.is ∙ ap (λ (n : ℕ). front n no_weight old) (all ∙ sym long) ∙ front_whole no_weight old
          ∙ ap (λ (n : ℕ). tab 0 n no_weight) long;
    }
