-- `rounding::put16`: the goals that the check leaves; the argument stands in Invariants.antt. Assumes nothing.
use mathlib.Core.Path.{◌≡◌, ap, ◌∙◌}
use Prim.Native.Nat.{ℕ}
use native.Mathlib.Omega.{arith}
use borrow.Author.Rules.{rules}
use lib.ListN.{length}
use Rattle.lists.specs.Tab.{tab, front}
use Rattle.lists.proofs.TabLaws.{written_none, written_more, front_whole}
use Rattle.row_u16.specs.Chunks.{cut_at}
use Rattle.row_u16.proofs.rounding.put16.Goals as goal

pub loop-t-init : goal.loop-t-init
loop-t-init c = written_none

pub loop-t-preserved : goal.loop-t-preserved
loop-t-preserved c =
    written_more c.loop-t.invariant (search rules) c.cut.ensures.answer

pub returns : goal.returns
returns c =
    let a = c.args in
    let all : c.loop-t.t ≡ length a.out.now = omega (arith, c.loop-t.invariant.long) in
    c.loop-t.invariant.is
    ∙ ap (λ (n : ℕ). front n (cut_at a.ss a.top a.big) a.out.now) all
    ∙ front_whole (cut_at a.ss a.top a.big) a.out.now
    ∙ ap (λ (n : ℕ). tab 0 n (cut_at a.ss a.top a.big)) c.requires.out_len
