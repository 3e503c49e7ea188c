-- `ends::put_clip` meets its contract: the key, the word and a newline. Assumes nothing.
use mathlib.Core.Path.{◌∙◌}
use mir.Facts.{to_z-of_z}
use borrow.Author.Rules.{rules}
use Rattle.text.proofs.TextLaws.{laid_none, laid_then, laid_byte}
use Rattle.story_text.specs.Keys.{key_clip}
use Rattle.story_text.specs.Text.{clip_word, clip_text}
use Rattle.story_ends.proofs.ends.put_clip.Goals as goal

pub returns : goal.returns
unfolding clip_text
returns c =
    let a = c.args in
    let same = to_z-of_z c.ranges.v in
    let l1 = laid_then key_clip (laid_none a.at a.out.now (search rules) (search rules)) c.put-a.ensures.answer c.put-a.ensures.written in
    let l2 = laid_then (clip_word 65535 a.v) l1 (c.put_word-b.ensures.answer ∙ rw same) (c.put_word-b.ensures.written ∙ rw same) in
    let l3 = laid_byte 10 l2 c.put_byte.ensures.answer c.put_byte.ensures.written in
    record { answer = l3.place; written = l3.is }
