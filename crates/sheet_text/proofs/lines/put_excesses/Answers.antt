-- `lines::put_excesses` meets its contract: the key, the list and a newline are laid one after the other. Assumes nothing.
use lib.ListN.{length}
use Rattle.text.proofs.TextLaws.{laid_none, laid_then, laid_byte}
use Rattle.sheet.specs.Keys.{key_excess}
use Rattle.sheet.specs.Text.{list_text, excess_text}
use borrow.Author.Rules.{rules}
use Rattle.sheet_text.proofs.lines.put_excesses.Goals as goal

pub returns : goal.returns
unfolding excess_text
returns c =
    let a = c.args in
    let l1 = laid_then key_excess (laid_none a.at a.out.now (search rules) (search rules)) c.put-a.ensures.answer c.put-a.ensures.written in
    let l2 = laid_then (list_text a.excesses.now 0 (length a.excesses.now)) l1 c.put_list-b.ensures.answer c.put_list-b.ensures.written in
    let l3 = laid_byte 10 l2 c.put_byte.ensures.answer c.put_byte.ensures.written in
    record { answer = l3.place; written = l3.is }
