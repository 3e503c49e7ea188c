-- `digits::goes_on`: the goals that the check leaves; the argument stands in Invariants.antt. Assumes nothing.
use Prim.Native.Nat.{ℕ, ◌+◌, ◌*◌, ◌^◌, ◌≤◌}
use native.Mathlib.Nat.{pow-zero, pow-suc, mul-one, mul_assoc}
use native.Mathlib.Numerals.{add-one}
use native.Mathlib.Omega.{arith}
use borrow.Author.Rules.{rules}
use borrow.Author.Count.{below_more}
use Rattle.scan.proofs.NumberLaws.{goes_with, goes_none}
use Rattle.scan.proofs.digits.goes_on.Invariants.{Turn}
use Rattle.scan.proofs.digits.goes_on.Goals as goal

first-turn : (low n : ℕ) → 1 ≤ n → Turn low n n (n + 1)
first-turn low n l = record {
  j = 0;
  some = l;
  from = rw (pow-zero, mul-one);
  to = rw (pow-zero, mul-one);
  below = λ i h. absurd (omega arith);
}

next-turn : (low n least past : ℕ) → Turn low n least past → past ≤ low → Turn low n (least * 10) (past * 10)
next-turn low n least past t h =
    let some = t.some in
    let from = t.from in
    let to = t.to in
    let j = t.j in record {
      j = j + 1;
      some = omega arith;
      from = rw (from, add-one, pow-suc, mul_assoc);
      to = rw (to, add-one, pow-suc) (omega arith);
      below = below_more (λ (i : ℕ). n * 10 ^ i + 10 ^ i ≤ low) j t.below (omega arith);
    }

pub loop-least-init : goal.loop-least-init
loop-least-init c = first-turn _ _ (search rules)

pub returns-then-low-past : goal.returns-then-low-past
returns-then-low-past c =
    let args = c.args in
    let pre = c.requires in
    let t = c.loop-least.invariant in
    record { answer = goes_with args.low args.high args.n t.j pre.2 pre.0 (omega arith) (rw (← t.from) (search rules)) (rw (← t.to) (search rules)) }

pub loop-least-smaller : goal.loop-least-smaller
loop-least-smaller c =
    let some = c.loop-least.invariant.some in
    search rules

pub loop-least-preserved : goal.loop-least-preserved
loop-least-preserved c = next-turn _ _ _ _ c.loop-least.invariant (search rules)

pub returns : goal.returns
returns c =
    let args = c.args in
    let t = c.loop-least.invariant in
    record { answer = goes_none args.low args.high args.n t.j c.requires.2 (rw (← t.from) (search rules)) t.below }
