-- `ends::put_word` meets its contract: the two tests are those of the definition. Assumes nothing.
use mir.Facts.{to_z-of_z}
use Rattle.story_text.specs.Text.{clip_word}
use Rattle.story_ends.proofs.ends.put_word.Goals as goal

pub returns-then-v-lt0 : goal.returns-then-v-lt0
unfolding clip_word
returns-then-v-lt0 c = rw (rw (to_z-of_z c.ranges.v) at c.if-v-lt0.true) (record { answer = c.put.ensures.answer; written = c.put.ensures.written })

pub returns-then-v-gt65535 : goal.returns-then-v-gt65535
unfolding clip_word
returns-then-v-gt65535 c =
    let same = to_z-of_z c.ranges.v in
    rw (rw same at c.if-v-lt0.false, rw same at c.if-v-gt65535.true) (record { answer = c.put-then-v-gt65535.ensures.answer; written = c.put-then-v-gt65535.ensures.written })

pub returns : goal.returns
unfolding clip_word
returns c =
    let same = to_z-of_z c.ranges.v in
    rw (rw same at c.if-v-lt0.false, rw same at c.if-v-gt65535.false) (record { answer = c.put-2.ensures.answer; written = c.put-2.ensures.written })
