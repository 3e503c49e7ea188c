-- `parts::put_kind_line` meets its contract: key, name and newline are laid one after the other. Assumes nothing.
use borrow.Author.Rules.{rules}
use Rattle.text.proofs.TextLaws.{laid_none, laid_then, laid_byte, laid_long}
use Rattle.sheet.specs.Keys.{key_kind, kind_name}
use Rattle.sheet.specs.Text.{kind_text}
use Rattle.sheet_text.proofs.parts.put_kind_line.Goals as goal

pub shape_of-out : goal.shape_of-out
shape_of-out c =
    let l1 = laid_then key_kind (laid_none c.args.at c.args.out.now (search rules) (search rules)) c.put-a.ensures.answer c.put-a.ensures.written in
    let l2 = laid_then (kind_name c.args.kind) l1 c.put_kind-b.ensures.answer c.put_kind-b.ensures.written in
    let l3 = laid_byte 10 l2 c.put_byte.ensures.answer c.put_byte.ensures.written in
    laid_long l3

pub returns : goal.returns
unfolding kind_text
returns c =
    let l1 = laid_then key_kind (laid_none c.args.at c.args.out.now (search rules) (search rules)) c.put-a.ensures.answer c.put-a.ensures.written in
    let l2 = laid_then (kind_name c.args.kind) l1 c.put_kind-b.ensures.answer c.put_kind-b.ensures.written in
    let l3 = laid_byte 10 l2 c.put_byte.ensures.answer c.put_byte.ensures.written in
    record { answer = l3.place; written = l3.is }
