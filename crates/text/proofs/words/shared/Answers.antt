-- `words::shared`: the goals that the check leaves; the argument stands in Invariants.antt. Assumes nothing.
use mathlib.Core.Path.{◌≡◌}
use mathlib.Core.List.{List}
use Prim.Native.Nat.{ℕ, ◌≤◌}
use native.Mathlib.Nat.{zero-add, add-zero}
use lib.ListN.{length, drop, drop_of_length-le}
use native.Mathlib.Omega.{arith}
use borrow.Author.Rules.{rules}
use Rattle.text.specs.Words.{common}
use Rattle.text.proofs.WordLaws.{ended, all, differs, agrees}
use Rattle.text.proofs.words.shared.Goals as goal

past : (word text : List ℕ) (at : ℕ) → length text ≤ at → 0 ≡ common (drop at text) word
past word text at h = rw (drop_of_length-le text h)

pub returns-then-text-at : goal.returns-then-text-at
returns-then-text-at c =
    let a = c.args in
    record { answer = past a.word.now a.text.now a.at (search rules) }

pub loop-k-init : goal.loop-k-init
loop-k-init c = (search rules, search rules, rw (add-zero, zero-add))

pub returns-then-text-at-2 : goal.returns-then-text-at-2
returns-then-text-at-2 c = record { answer = ended _ _ _ _ c.loop-k.invariant (search rules) }

pub returns-then-text-at-3 : goal.returns-then-text-at-3
returns-then-text-at-3 c = record { answer = differs _ _ _ _ c.loop-k.invariant (search rules) (search rules) c.if-text-at-3.true }

pub loop-k-preserved : goal.loop-k-preserved
loop-k-preserved c = agrees _ _ _ _ c.loop-k.invariant (search rules) (search rules) c.if-text-at-3.false

pub returns : goal.returns
returns c =
    let last : c.loop-k.k ≡ length c.args.word.now = omega arith in
    record { answer = rw (← last) (all _ _ _ _ c.loop-k.invariant (search rules)) }
