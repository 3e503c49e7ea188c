-- `decimal::put_line` meets its contract: the field is laid, and the newline after it. Assumes nothing.
use borrow.Author.Rules.{rules}
use Rattle.text.proofs.TextLaws.{laid_none, laid_then, laid_byte}
use Rattle.text.specs.Text.{field_text, line_text}
use Rattle.text.proofs.decimal.put_line.Goals as goal

pub returns : goal.returns
unfolding line_text
returns c =
    let l1 = laid_then (field_text c.args.key.now c.args.n) (laid_none c.args.at c.args.out.now (search rules) (search rules)) c.put_field-p.ensures.answer c.put_field-p.ensures.written in
    let l2 = laid_byte 10 l1 c.put_byte.ensures.answer c.put_byte.ensures.written in
    record { answer = l2.place; written = l2.is }
