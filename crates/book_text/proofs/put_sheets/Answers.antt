-- `put_sheets` meets its contract: four lines, one after the other. Assumes nothing.
use mir.Facts.{to_z-of_z}
use mir.Syntax.{w64}
use mir.Val.{SFits}
use borrow.Author.Rules.{rules}
use Rattle.text.specs.Text.{line_text}
use Rattle.text.proofs.TextLaws.{laid_none, laid_then}
use Rattle.signed_lines.proofs.LineLaws.{laid_number}
use Rattle.book_text.specs.Keys.{key_sheets, key_windows, key_least, key_most}
use Rattle.book_text.specs.Text.{sheets_text}
use Rattle.book_text.proofs.put_sheets.Goals as goal

pub returns : goal.returns
unfolding sheets_text
returns c =
    let r = c.args.r in
    let least : SFits w64 r.least = search rules in
    let most : SFits w64 r.most = search rules in
    let l1 = laid_then (line_text key_sheets r.sheets) (laid_none 0 c.args.out.now (search rules) (search rules)) c.put_line-a.ensures.answer c.put_line-a.ensures.written in
    let l2 = laid_then (line_text key_windows r.windows) l1 c.put_line-b.ensures.answer c.put_line-b.ensures.written in
    let l3 = laid_number key_least (to_z-of_z least) l2 c.put_signed_line-c.ensures.answer c.put_signed_line-c.ensures.written in
    let l4 = laid_number key_most (to_z-of_z most) l3 c.put_signed_line.ensures.answer c.put_signed_line.ensures.written in
    record { answer = l4.place; written = l4.is }
