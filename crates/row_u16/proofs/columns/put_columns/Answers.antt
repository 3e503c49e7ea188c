-- `columns::put_columns`: the goals that the check leaves; the argument stands in Invariants.antt. Assumes nothing.
use mathlib.Core.Path.{◌≡◌, refl, ap, ◌∙◌}
use Prim.Native.Nat.{ℕ}
use native.Mathlib.Omega.{arith}
use borrow.Author.Rules.{rules}
use lib.ListN.{length}
use Rattle.lists.specs.Tab.{front}
use Rattle.lists.proofs.TabLaws.{written_none, written_more, front_whole}
use Rattle.vertical.specs.Column.{clipped_at}
use Rattle.vertical.proofs.ReadBack.{back64 as back}
use Rattle.row_u16.proofs.columns.put_columns.Goals as goal

pub loop-t-init : goal.loop-t-init
loop-t-init c = written_none

pub loop-t-preserved : goal.loop-t-preserved
loop-t-preserved c =
    written_more c.loop-t.invariant (search rules) (c.clip.ensures ∙ rw (back c.clip-arg-1.given) refl)

pub returns : goal.returns
returns c =
    let a = c.args in
    let all : c.loop-t.t ≡ length a.out.now = omega (arith, c.loop-t.invariant.long) in
    c.loop-t.invariant.is ∙ ap (λ (n : ℕ). front n (clipped_at 65535 a.ss.now a.p) a.out.now) all ∙ front_whole (clipped_at 65535 a.ss.now a.p) a.out.now
