-- `sums::write_excesses`: the goals that the check leaves; the argument stands in Invariants.antt. Assumes nothing.
use mathlib.Core.Path.{◌∙◌}
use native.Mathlib.Omega.{arith}
use Rattle.lists.proofs.TabLaws.{written_none, written_more}
use Rattle.excesses.proofs.SumLaws.{back}
use Rattle.excesses.proofs.sums.write_excesses.Goals as goal

pub loop-i-init : goal.loop-i-init
loop-i-init g c = (omega arith, written_none)

pub loop-i-preserved : goal.loop-i-preserved
loop-i-preserved g c = (omega arith, written_more c.loop-i.invariant.1 (omega (arith, c.requires.p_bound.1)) (back c.excess_of.type_inv ∙ c.excess_of.ensures.answer))
