-- `put_report` meets its contract: four lines and three more. Assumes nothing.
use borrow.Author.Rules.{rules}
use Rattle.text.specs.Text.{line_text}
use Rattle.text.proofs.TextLaws.{laid_none, laid_then}
use Rattle.book_text.specs.Keys.{key_not_flat, key_negative, key_stopped}
use Rattle.book_text.specs.Text.{sheets_text, report_text}
use Rattle.book_text.proofs.put_report.Goals as goal

pub returns : goal.returns
unfolding report_text
returns c =
    let r = c.args.r in
    let l1 = laid_then (sheets_text r) (laid_none 0 c.args.out.now (search rules) (search rules)) c.put_sheets-a.ensures.answer c.put_sheets-a.ensures.written in
    let l2 = laid_then (line_text key_not_flat r.notflat) l1 c.put_line-b.ensures.answer c.put_line-b.ensures.written in
    let l3 = laid_then (line_text key_negative r.negative) l2 c.put_line-c.ensures.answer c.put_line-c.ensures.written in
    let l4 = laid_then (line_text key_stopped r.stopped) l3 c.put_line.ensures.answer c.put_line.ensures.written in
    record { answer = l4.place; written = l4.is }
