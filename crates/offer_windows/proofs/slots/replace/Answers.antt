-- `slots::replace`: the goals that the check leaves; the argument stands in Invariants.antt. Assumes nothing.
use mathlib.Core.Path.{◌≡◌, refl, sym, ◌∙◌}
use native.Mathlib.Omega.{arith}
use lib.IntN.{pos}
use lib.ListN.{length}
use Rattle.lists.proofs.TabLaws.{written_none, front_whole}
use Rattle.windows.proofs.WeightLaws.{length_values, value_read, values_more}
use Rattle.offer_windows.specs.Walks.{replaced_in}
use Rattle.offer_windows.proofs.WalkLaws.{written_kept}
use Rattle.offer_windows.proofs.slots.replace.Goals as goal
use Rattle.offer_windows.proofs.slots.replace.Goals.{then-in_use, else-in_use}

pub loop-k-init : goal.loop-k-init
loop-k-init g c = (omega arith, written_none)

pub loop-k-preserved : goal.loop-k-preserved
loop-k-preserved g c =
    let k = c.loop-k.k in
    let each = g.met.W.Weight.each in
    let long = length_values each c.args.weights.now in (
      omega arith,
      elim c.if-in_use.branch [
        | then-in_use w ↦
            let used = sym c.in_use.ensures ∙ w.if-in_use.true in
            rw w.weights-is (values_more each c.loop-k.invariant.1 (omega arith) (value_read each c.args.offered.now k w.index-offered-k.result (pos 0) w.index-offered-k.is (omega (arith, c.requires.2)) ∙ rw used refl))
        | else-in_use w ↦
            let idle = sym c.in_use.ensures ∙ w.if-in_use.false in
            rw w.weights-is (written_kept c.loop-k.invariant.1 (omega (arith, long)) (rw idle refl))
      ],
    )

pub returns : goal.returns
returns g c =
    let a = c.args in
    let row = length_values g.met.W.Weight.each a.weights.now in
    let all : c.loop-k.k ≡ length a.weights.now = omega arith in
    let f = replaced_in a.window (g.W.Weight.values a.weights.now) (g.W.Weight.values a.offered.now) a.sizes.now in
    record { written = c.loop-k.invariant.1.is ∙ rw (all, ← row) (front_whole f (g.W.Weight.values a.weights.now)) }
