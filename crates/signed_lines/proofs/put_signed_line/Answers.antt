-- `put_signed_line` meets its contract: the key, the number with its sign and a newline. Assumes nothing.
use mathlib.Core.Path.{◌∙◌}
use mir.Facts.{to_z-of_z}
use borrow.Author.Rules.{rules}
use Rattle.text.specs.Text.{signed}
use Rattle.text.proofs.TextLaws.{laid_none, laid_then, laid_byte}
use Rattle.signed_lines.specs.Lines.{number_text}
use Rattle.signed_lines.proofs.put_signed_line.Goals as goal

pub returns : goal.returns
unfolding number_text
returns c =
    let a = c.args in
    let same = to_z-of_z c.ranges.v in
    let l1 = laid_then a.key.now (laid_none a.at a.out.now (search rules) (search rules)) c.put-a.ensures.answer c.put-a.ensures.written in
    let l2 = laid_then (signed a.v) l1 (c.put_signed-b.ensures.answer ∙ rw same) (c.put_signed-b.ensures.written ∙ rw same) in
    let l3 = laid_byte 10 l2 c.put_byte.ensures.answer c.put_byte.ensures.written in
    record { answer = l3.place; written = l3.is }
