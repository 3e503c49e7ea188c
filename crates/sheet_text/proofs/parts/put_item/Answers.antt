-- `parts::put_item` meets its contract: a comma before all but the first. Assumes nothing.
use mathlib.Core.Path.{◌≡◌, ◌∙◌}
use mathlib.Core.List.{◌++◌}
use Prim.Native.Nat.{ℕ}
use lib.IntN.{ℤ}
use mir.Facts.{to_z-of_z}
use borrow.Author.Rules.{rules}
use borrow.Author.Tests.{eq-eqb, ne_eqb}
use Rattle.text.specs.Text.{signed}
use Rattle.text.proofs.TextLaws.{laid_none, laid_then, laid_byte}
use Rattle.sheet.specs.Keys.{comma}
use Rattle.sheet.specs.Text.{item_text}
use Rattle.sheet_text.proofs.parts.put_item.Goals as goal

only : (j : ℕ) (v : ℤ) → j ≡ 0 → item_text j v ≡ signed v
unfolding item_text
only j v e = rw (eq-eqb j 0 e)

more : (j : ℕ) (v : ℤ) → (j ≡ 0 → ⊥) → item_text j v ≡ comma ++ signed v
unfolding item_text
more j v h = rw (ne_eqb j 0 h)

pub returns-then-j-eq0 : goal.returns-then-j-eq0
returns-then-j-eq0 c =
    let put = c.put_signed in
    rw (only c.args.j _ c.if-j-eq0.true) (record { answer = put.ensures.answer ∙ rw (to_z-of_z c.ranges.v); written = put.ensures.written ∙ rw (to_z-of_z c.ranges.v) })

pub returns : goal.returns
returns c =
    let put = c.put_signed-2 in
    let same = to_z-of_z c.ranges.v in
    let l1 = laid_byte 44 (laid_none c.args.at c.args.out.now (search rules) (search rules)) c.put_byte-p.ensures.answer c.put_byte-p.ensures.written in
    let l2 = laid_then (signed c.args.v) l1 (put.ensures.answer ∙ rw same) (put.ensures.written ∙ rw same) in
    rw (more c.args.j _ c.if-j-eq0.false) (record { answer = l2.place; written = l2.is })
