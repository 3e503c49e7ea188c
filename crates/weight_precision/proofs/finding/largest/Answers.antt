-- `finding::largest`: the goals that the check leaves; the argument stands in Invariants.antt. Assumes nothing.
use Rattle.std.proofs.Common.{◌≡◌, sym, ℕ, ◌<◌, List, [], ◌∷◌, length, get_or, refl, ap, ◌∙◌, add-one, arith}
use borrow.Author.Tests.{eqb-true, eqb-false}
use lib.Ieee.{Float, nan}
use Rattle.lists.specs.Tab.{turns}
use Rattle.floats.specs.Doubles.{zero64}
use Rattle.weight_precision.specs.Precision.{larger, largest}
use Rattle.weight_precision.proofs.finding.largest.Goals as goal

nothing : (l : List Float) → length l ≡ 0 → zero64 ≡ largest l
unfolding largest
nothing [] e = refl
nothing (x ∷ l) e = absurd (omega arith)

head : (l : List Float) → 0 < length l → get_or l 0 nan ≡ get_or l 0 zero64
head [] h = absurd (omega arith)
head (x ∷ l) h = refl

pub returns-then-is_empty : goal.returns-then-is_empty
returns-then-is_empty c = nothing c.args.weights.now (eqb-true (length c.args.weights.now) 0 (sym c.is_empty.ensures ∙ c.if-is_empty.true))

pub loop-weight-init : goal.loop-weight-init
loop-weight-init c =
    let some = eqb-false (length c.args.weights.now) 0 (sym c.is_empty.ensures ∙ c.if-is_empty.false) in
    (omega arith, head c.args.weights.now (omega arith))

pub loop-weight-preserved : goal.loop-weight-preserved
loop-weight-preserved c = (omega arith, rw (add-one, ← c.loop-weight.invariant.1) c.larger-best.ensures)

pub returns : goal.returns
unfolding largest
returns c =
    let weights = c.args.weights.now in
    let all : c.loop-weight.weight-index ≡ length weights = omega arith in
    c.loop-weight.invariant.1 ∙ ap (λ (n : ℕ). turns (λ x k. larger x (get_or weights k nan)) (get_or weights 0 zero64) n) all
