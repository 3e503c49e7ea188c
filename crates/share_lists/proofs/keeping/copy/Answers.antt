-- `keeping::copy`: the goals that the check leaves; the argument stands in Invariants.antt. Assumes nothing.
use borrow.Author.Rules.{rules}
use mathlib.Core.Path.{◌≡◌, refl, ◌∙◌, ap}
use Prim.Native.Nat.{ℕ}
use native.Mathlib.Omega.{arith}
use lib.ListN.{take, length-set}
use Rattle.text.specs.Text.{laid}
use Rattle.share_lists.proofs.Laying.{laid_next, laid_nothing}
use Rattle.share_lists.proofs.keeping.copy.Goals as goal

pub loop-k-init : goal.loop-k-init
loop-k-init c = (omega arith, refl, laid_nothing c.args.out.now c.args.src.now c.args.at)

pub loop-k-preserved : goal.loop-k-preserved
loop-k-preserved c =
    let a = c.args in
    let i = c.loop-k.invariant in
    (search rules, length-set c.loop-k.out _ _ ∙ i.1, laid_next a.src.now a.out.now c.loop-k.out a.at c.loop-k.k 0 (search rules) i.2)

pub returns : goal.returns
returns c =
    let a = c.args in
    let all : c.loop-k.k ≡ a.n = omega arith in
    record { written = c.loop-k.invariant.2 ∙ ap (λ (m : ℕ). laid a.out.now a.at (take m a.src.now)) all }
