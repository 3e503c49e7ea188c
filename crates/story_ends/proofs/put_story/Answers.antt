-- `put_story` meets its contract: the camera lines, then the five lines of their total, are the story. Assumes nothing.
use mathlib.Core.Path.{◌∙◌}
use Prim.Native.Nat.{◌^◌, ◌-◌}
use lib.Dec.{lit<}
use borrow.Author.Rules.{rules}
use Rattle.integers.specs.Sums.{total, rounded, value}
use Rattle.text.proofs.TextLaws.{laid_none, laid_then}
use Rattle.excesses.specs.Slots.{slot_from}
use Rattle.vertical.proofs.ReadBack.{back64 as back}
use Rattle.story_text.specs.There.{sample_from}
use Rattle.story_text.specs.Text.{lines_text, end_text, window_text}
use Rattle.story_ends.proofs.put_story.Goals as goal

pub put_end-requires : goal.put_end-requires
put_end-requires c =
    let t = c.total-t in
    let p = c.requires.le_p in
    (p.0, p.1, rw (back t.type_inv) t.ensures.answer.1)

pub returns : goal.returns
unfolding window_text
returns c =
    let a = c.args in
    let w = slot_from a.weights.now a.from in
    let s = sample_from a.src.now a.row a.column a.start.0 in
    let t = c.total-t in
    let sum = back t.type_inv ∙ t.ensures.answer.0 in
    let l1 = laid_then (lines_text a.start.0 w s a.size) (laid_none 0 a.out.now (lit< tt) (search rules)) c.put_lines-a.ensures.answer c.put_lines-a.ensures.written in
    let l2 = laid_then (end_text (total w s a.size) (2 ^ (a.p - 1)) (rounded a.p w s a.size) (value 65535 a.p w s a.size)) l1 (c.put_end.ensures.answer ∙ rw sum) (c.put_end.ensures.written ∙ rw sum) in
    record { answer = l2.place; written = l2.is }
