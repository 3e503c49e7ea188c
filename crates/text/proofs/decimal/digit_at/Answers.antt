-- `decimal::digit_at`: the goals that the check leaves; the argument stands in Invariants.antt. Assumes nothing.
use mathlib.Core.Path.{◌≡◌}
use native.Mathlib.Nat.{div-one, pow-suc, div-div-eq-div-mul}
use native.Mathlib.Numerals.{add-one}
use native.Mathlib.Omega.{arith}
use borrow.Author.Rules.{rules}
use Rattle.text.proofs.decimal.digit_at.Goals as goal

pub loop-init : goal.loop-init
loop-init c = (search rules, rw div-one)

pub loop-preserved : goal.loop-preserved
loop-preserved c = (search rules, rw (c.loop.invariant.1, div-div-eq-div-mul, add-one, pow-suc))

pub returns : goal.returns
returns c =
    let all : c.loop.counter ≡ c.args.p = omega arith in
    record { answer = rw (c.loop.invariant.1, all) }
