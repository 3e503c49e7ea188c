-- `shape::unlike`: the goals that the check leaves; the argument stands in Invariants.antt. Assumes nothing.
use mathlib.Core.Path.{◌≡◌, refl}
use mathlib.Core.Bool.{not}
use native.Mathlib.Omega.{arith}
use lib.Dec.{eqb}
use lib.ListN.{length, get_or}
use borrow.Author.Tests.{eq-eqb, ne_eqb}
use Rattle.excesses.proofs.ExcessLaws.{any_turn}
use Rattle.repairs.specs.Offer.{unlike}
use Rattle.accept_offers.proofs.shape.unlike.Goals as goal

pub returns-then-a-b : goal.returns-then-a-b
unfolding unlike
returns-then-a-b c = record { answer = rw (ne_eqb (length c.args.a.now) (length c.args.b.now) c.if-a-b.true) refl }

pub loop-k-preserved : goal.loop-k-preserved
loop-k-preserved c =
    let a = c.args in
    (omega arith, any_turn (λ k. not (eqb (get_or a.a.now k 0) (get_or a.b.now k 0))) c.loop-k.k c.loop-k.invariant.1 refl)

pub returns : goal.returns
unfolding unlike
returns c =
    let a = c.args in
    let all : c.loop-k.k ≡ length a.a.now = omega arith in
    record { answer = rw (eq-eqb (length a.a.now) (length a.b.now) c.if-a-b.false, ← all) c.loop-k.invariant.1 }

pub loop-k-init : goal.loop-k-init
loop-k-init c = (omega arith, refl)
