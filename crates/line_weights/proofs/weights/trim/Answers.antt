-- `weights::trim`: the goals that the check leaves; the argument stands in Invariants.antt. Assumes nothing.
use mathlib.Core.Bool.{not}
use Rattle.line_weights.proofs.WeightLaws.{up_stop, up_on}
use mathlib.Core.Path.{◌≡◌, refl, sym, ◌∙◌, ap}
use Rattle.line_weights.specs.Weights.{up_to}
use Rattle.line_weights.specs.Weights.{weighty}
use borrow.Author.Rules.{rules}
use native.Mathlib.Omega.{arith}
use Rattle.line_weights.proofs.weights.trim.Goals as goal

pub loop-k-init : goal.loop-k-init
loop-k-init c = (omega arith, refl)

pub returns-then-not-row-j : goal.returns-then-not-row-j
returns-then-not-row-j c =
    let row = c.args.row.now in
    record { answer = sym (c.loop-k.invariant.1 ∙ up_stop (weighty row) c.loop-k.k (omega arith) (ap not c.if-not-row-j.true)) }

pub loop-k-preserved : goal.loop-k-preserved
loop-k-preserved c =
    let row = c.args.row.now in
    (search rules, c.loop-k.invariant.1 ∙ up_on (weighty row) c.loop-k.k (omega arith) (ap not c.if-not-row-j.false))

pub returns : goal.returns
returns c =
    let row = c.args.row.now in
    let none : c.loop-k.k ≡ 0 = omega arith in
    record { answer = sym (c.loop-k.invariant.1 ∙ ap (up_to (weighty row)) none) }
