-- `parts::put_open` meets its contract: three fields and the colon are laid one after the other. Assumes nothing.
use borrow.Author.Rules.{rules}
use Rattle.text.specs.Text.{field_text}
use Rattle.text.proofs.TextLaws.{laid_none, laid_then, laid_byte, laid_long}
use Rattle.sheet.specs.Text.{open_text}
use Rattle.sheet.specs.Keys.{key_line, equals, comma}
use Rattle.sheet_text.proofs.parts.put_open.Goals as goal

pub shape_of-out : goal.shape_of-out
shape_of-out c =
    let l1 = laid_then (field_text key_line c.args.i) (laid_none c.args.at c.args.out.now (search rules) (search rules)) c.put_field-a.ensures.answer c.put_field-a.ensures.written in
    let l2 = laid_then (field_text equals c.args.start) l1 c.put_field-b.ensures.answer c.put_field-b.ensures.written in
    let l3 = laid_then (field_text comma c.args.size) l2 c.put_field-c.ensures.answer c.put_field-c.ensures.written in
    let l4 = laid_byte 58 l3 c.put_byte.ensures.answer c.put_byte.ensures.written in
    laid_long l4

pub returns : goal.returns
unfolding open_text
returns c =
    let l1 = laid_then (field_text key_line c.args.i) (laid_none c.args.at c.args.out.now (search rules) (search rules)) c.put_field-a.ensures.answer c.put_field-a.ensures.written in
    let l2 = laid_then (field_text equals c.args.start) l1 c.put_field-b.ensures.answer c.put_field-b.ensures.written in
    let l3 = laid_then (field_text comma c.args.size) l2 c.put_field-c.ensures.answer c.put_field-c.ensures.written in
    let l4 = laid_byte 58 l3 c.put_byte.ensures.answer c.put_byte.ensures.written in
    record { answer = l4.place; written = l4.is }
