-- `decimal::put_field` meets its contract: the key is laid, and the number after it. Assumes nothing.
use borrow.Author.Rules.{rules}
use Rattle.text.specs.Text.{decimal}
use Rattle.text.proofs.TextLaws.{laid_none, laid_then}
use Rattle.text.specs.Text.{field_text}
use Rattle.text.proofs.decimal.put_field.Goals as goal

pub returns : goal.returns
unfolding field_text
returns c =
    let l1 = laid_then c.args.key.now (laid_none c.args.at c.args.out.now (search rules) (search rules)) c.put-p.ensures.answer c.put-p.ensures.written in
    let l2 = laid_then (decimal c.args.n) l1 c.put_number.ensures.answer c.put_number.ensures.written in
    record { answer = l2.place; written = l2.is }
