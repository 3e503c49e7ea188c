-- `lines::put_camera` meets its contract: the key and the line's number, then weight, sample and product, each behind a comma, then a newline. Assumes nothing.
use mathlib.Core.Path.{◌≡◌, ◌∙◌}
use mir.Facts.{to_z-of_z, Fits-of_z, sfits_to_z, sfits_widen}
use mir.Syntax.{w32, w64}
use mir.Val.{SFits, to_z, of_z}
use borrow.Author.Rules.{rules}
use Rattle.text.specs.Text.{field_text}
use Rattle.text.proofs.TextLaws.{laid_none, laid_then, laid_byte}
use Rattle.sheet.specs.Keys.{comma}
use Rattle.story_text.proofs.SumSizes.{wide_back}
use Rattle.vertical.proofs.ReadBack.{back64 as back}
use Rattle.story_text.specs.Keys.{key_line}
use Rattle.story_text.specs.Text.{product, part_text, camera_text}
use Rattle.story_text.proofs.lines.put_camera.Goals as goal

pub overflow_cast-weight : goal.overflow_cast-weight
overflow_cast-weight c = sfits_widen tt (sfits_to_z (Fits-of_z c.ranges.weight))

pub returns : goal.returns
unfolding camera_text
returns c =
    let a = c.args in
    let narrow : SFits w32 a.weight = c.ranges.weight in
    let weight = wide_back w32 a.weight narrow (sfits_widen tt narrow) in
    let made = c.product in
    let times : to_z w64 (of_z w64 made.result) ≡ product a.weight a.sample = back made.type_inv ∙ made.ensures.answer ∙ rw (to_z-of_z narrow) in
    let l1 = laid_then (field_text key_line a.line.0) (laid_none a.at a.out.now (search rules) (search rules)) c.put_field-a.ensures.answer c.put_field-a.ensures.written in
    let l2 = laid_then (part_text a.weight) l1 (c.put_part-b.ensures.answer ∙ rw weight) (c.put_part-b.ensures.written ∙ rw weight) in
    let l3 = laid_then (field_text comma a.sample) l2 c.put_field-c.ensures.answer c.put_field-c.ensures.written in
    let l4 = laid_then (part_text (product a.weight a.sample)) l3 (c.put_part-d.ensures.answer ∙ rw times) (c.put_part-d.ensures.written ∙ rw times) in
    let l5 = laid_byte 10 l4 c.put_byte.ensures.answer c.put_byte.ensures.written in
    record { answer = l5.place; written = l5.is }
