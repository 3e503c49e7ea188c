-- `lines::put_list`: the goals that the check leaves; the argument stands in Invariants.antt. Assumes nothing.
use mathlib.Core.Path.{◌≡◌, ◌∙◌}
use native.Mathlib.Nat.{zero-add}
use native.Mathlib.Omega.{arith}
use lib.IntN.{pos}
use lib.ListN.{length, get_or}
use mir.Facts.{to_z-of_z}
use mir.Syntax.{w64}
use borrow.Author.Rules.{rules}
use Rattle.text.proofs.TextLaws.{laid_none, laid_piece, laid_long}
use Rattle.sheet.specs.Text.{item_at, list_text}
use Rattle.sheet_text.proofs.lines.put_list.Goals as goal

pub loop-j-init : goal.loop-j-init
loop-j-init c = (search rules, laid_none _ _ (search rules) (search rules))

pub loop-j-preserved : goal.loop-j-preserved
loop-j-preserved c =
    let a = c.args in
    let j = c.loop-j.j in
    let read = to_z-of_z {w = w64} {z = get_or a.list.now j (pos 0)} (record { sfits = c.put_item-arg-1.given }) in
    (search rules, laid_piece (item_at a.list.now 0) j c.loop-j.invariant.1 (c.put_item-p.ensures.answer ∙ rw (read, zero-add j)) (c.put_item-p.ensures.written ∙ rw (read, zero-add j)))

pub shape_of-out : goal.shape_of-out
shape_of-out c = laid_long c.loop-j.invariant.1

pub returns : goal.returns
unfolding list_text
returns c =
    let all : c.loop-j.j ≡ length c.args.list.now = omega arith in
    rw (← all) (record { answer = c.loop-j.invariant.1.place; written = c.loop-j.invariant.1.is })
