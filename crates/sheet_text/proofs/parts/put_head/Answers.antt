-- `parts::put_head` meets its contract: the kind, the sides and the store are laid one after the other. Assumes nothing.
use borrow.Author.Rules.{rules}
use Rattle.text.proofs.TextLaws.{laid_none, laid_then, laid_long}
use Rattle.sheet.specs.Text.{kind_text, sides_text, store_text, head_text}
use Rattle.sheet_text.proofs.parts.put_head.Goals as goal

pub shape_of-out : goal.shape_of-out
shape_of-out c =
    let l1 = laid_then (kind_text c.args.kind) (laid_none c.args.at c.args.out.now (search rules) (search rules)) c.put_kind_line-a.ensures.answer c.put_kind_line-a.ensures.written in
    let l2 = laid_then (sides_text c.args.lines c.args.outs c.args.window) l1 c.put_sides-b.ensures.answer c.put_sides-b.ensures.written in
    let l3 = laid_then (store_text c.args.store c.args.precision) l2 c.put_store.ensures.answer c.put_store.ensures.written in
    laid_long l3

pub returns : goal.returns
unfolding head_text
returns c =
    let l1 = laid_then (kind_text c.args.kind) (laid_none c.args.at c.args.out.now (search rules) (search rules)) c.put_kind_line-a.ensures.answer c.put_kind_line-a.ensures.written in
    let l2 = laid_then (sides_text c.args.lines c.args.outs c.args.window) l1 c.put_sides-b.ensures.answer c.put_sides-b.ensures.written in
    let l3 = laid_then (store_text c.args.store c.args.precision) l2 c.put_store.ensures.answer c.put_store.ensures.written in
    record { answer = l3.place; written = l3.is }
