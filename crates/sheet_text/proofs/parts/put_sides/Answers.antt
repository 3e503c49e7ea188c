-- `parts::put_sides` meets its contract: three lines are laid one after the other. Assumes nothing.
use borrow.Author.Rules.{rules}
use Rattle.text.specs.Text.{line_text}
use Rattle.text.proofs.TextLaws.{laid_none, laid_then, laid_long}
use Rattle.sheet.specs.Text.{sides_text}
use Rattle.sheet.specs.Keys.{key_in, key_out, key_window}
use Rattle.sheet_text.proofs.parts.put_sides.Goals as goal

pub shape_of-out : goal.shape_of-out
shape_of-out c =
    let l1 = laid_then (line_text key_in c.args.lines) (laid_none c.args.at c.args.out.now (search rules) (search rules)) c.put_line-a.ensures.answer c.put_line-a.ensures.written in
    let l2 = laid_then (line_text key_out c.args.outs) l1 c.put_line-b.ensures.answer c.put_line-b.ensures.written in
    let l3 = laid_then (line_text key_window c.args.window) l2 c.put_line.ensures.answer c.put_line.ensures.written in
    laid_long l3

pub returns : goal.returns
unfolding sides_text
returns c =
    let l1 = laid_then (line_text key_in c.args.lines) (laid_none c.args.at c.args.out.now (search rules) (search rules)) c.put_line-a.ensures.answer c.put_line-a.ensures.written in
    let l2 = laid_then (line_text key_out c.args.outs) l1 c.put_line-b.ensures.answer c.put_line-b.ensures.written in
    let l3 = laid_then (line_text key_window c.args.window) l2 c.put_line.ensures.answer c.put_line.ensures.written in
    record { answer = l3.place; written = l3.is }
