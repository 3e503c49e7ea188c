-- `columns::tail`: the goals that the check leaves; the argument stands in Invariants.antt. Assumes nothing.
use mathlib.Core.Path.{◌≡◌, ap, ◌∙◌}
use Prim.Native.Nat.{ℕ}
use native.Mathlib.Omega.{arith}
use borrow.Author.Rules.{rules}
use lib.ListN.{length}
use Rattle.lists.specs.Tab.{front}
use Rattle.lists.proofs.TabLaws.{written_more, front_whole}
use Rattle.vertical.specs.Column.{row_value}
use Rattle.row_u8.proofs.columns.tail.Goals as goal

pub loop-j-preserved : goal.loop-j-preserved
loop-j-preserved c =
    written_more c.loop-j.invariant (search rules) c.pixel.ensures

pub returns : goal.returns
returns c =
    let a = c.args in
    let row = row_value 255 a.p a.ws.now a.src.now a.at0 a.row (length a.ws.now) in
    let all : c.loop-j.j ≡ length a.out.now = omega (arith, c.loop-j.invariant.long) in
    c.loop-j.invariant.is ∙ ap (λ (n : ℕ). front n row a.out.now) all ∙ front_whole row a.out.now
