-- `parts::put_store` meets its contract: two lines are laid one after the other. Assumes nothing.
use borrow.Author.Rules.{rules}
use Rattle.text.specs.Text.{line_text}
use Rattle.text.proofs.TextLaws.{laid_none, laid_then, laid_long}
use Rattle.sheet.specs.Text.{store_text}
use Rattle.sheet.specs.Keys.{key_store, key_precision}
use Rattle.sheet_text.proofs.parts.put_store.Goals as goal

pub shape_of-out : goal.shape_of-out
shape_of-out c =
    let l1 = laid_then (line_text key_store c.args.store) (laid_none c.args.at c.args.out.now (search rules) (search rules)) c.put_line-a.ensures.answer c.put_line-a.ensures.written in
    let l2 = laid_then (line_text key_precision c.args.precision) l1 c.put_line.ensures.answer c.put_line.ensures.written in
    laid_long l2

pub returns : goal.returns
unfolding store_text
returns c =
    let l1 = laid_then (line_text key_store c.args.store) (laid_none c.args.at c.args.out.now (search rules) (search rules)) c.put_line-a.ensures.answer c.put_line-a.ensures.written in
    let l2 = laid_then (line_text key_precision c.args.precision) l1 c.put_line.ensures.answer c.put_line.ensures.written in
    record { answer = l2.place; written = l2.is }
