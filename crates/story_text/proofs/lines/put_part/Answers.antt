-- `lines::put_part` meets its contract: a comma, then the number with its sign. Assumes nothing.
use mathlib.Core.Path.{◌∙◌}
use mir.Facts.{to_z-of_z}
use borrow.Author.Rules.{rules}
use Rattle.text.specs.Text.{signed}
use Rattle.text.proofs.TextLaws.{laid_none, laid_then}
use Rattle.sheet.specs.Keys.{comma}
use Rattle.story_text.specs.Text.{part_text}
use Rattle.story_text.proofs.lines.put_part.Goals as goal

pub returns : goal.returns
unfolding part_text
returns c =
    let same = to_z-of_z c.ranges.v in
    let l1 = laid_then comma (laid_none c.args.at c.args.out.now (search rules) (search rules)) c.put-a.ensures.answer c.put-a.ensures.written in
    let l2 = laid_then (signed c.args.v) l1 (c.put_signed.ensures.answer ∙ rw same) (c.put_signed.ensures.written ∙ rw same) in
    record { answer = l2.place; written = l2.is }
