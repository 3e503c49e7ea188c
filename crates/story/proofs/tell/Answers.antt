-- `tell` meets its contract: the run over one byte counts the whole text, and the text is written where there is room for it. Assumes nothing.
use mathlib.Core.Path.{◌≡◌, ◌∙◌}
use mathlib.Core.List.{List}
use Prim.Native.Nat.{ℕ}
use native.Mathlib.Omega.{arith}
use lib.ListN.{length}
use Rattle.text.specs.Text.{reached}
use Rattle.excesses.specs.Slots.{slot_from}
use Rattle.story_text.specs.There.{sample_from}
use Rattle.story_text.specs.Text.{window_text}
use Rattle.story.proofs.Sizes.{counted}
use Rattle.story.proofs.Ways.{room_refused, all_written}
use Rattle.story.proofs.tell.Goals as goal

pub returns-then-out-n : goal.returns-then-out-n
returns-then-out-n c =
    let text : List ℕ = window_text c.args.p c.args.start.0 (slot_from c.args.weights.now c.args.from) (sample_from c.args.src.now c.args.row c.args.column c.args.start.0) c.args.size in
    let whole : reached 0 (length text) ≡ length text = counted c.args.p c.args.start.0 (slot_from c.args.weights.now c.args.from) (sample_from c.args.src.now c.args.row c.args.column c.args.start.0) c.args.size (omega (arith, c.requires.there.few)) in
    let both = room_refused text c.args.out.now (omega (arith, c.if-out-n.true, c.put_story-n.ensures.answer, whole)) in record { answer = both.0; written = both.1 }

pub returns : goal.returns
returns c =
    let text : List ℕ = window_text c.args.p c.args.start.0 (slot_from c.args.weights.now c.args.from) (sample_from c.args.src.now c.args.row c.args.column c.args.start.0) c.args.size in
    let whole : reached 0 (length text) ≡ length text = counted c.args.p c.args.start.0 (slot_from c.args.weights.now c.args.from) (sample_from c.args.src.now c.args.row c.args.column c.args.start.0) c.args.size (omega (arith, c.requires.there.few)) in
    let long = c.put_story-n.ensures.answer ∙ whole in
    let both = all_written text c.args.out.now (omega (arith, c.if-out-n.false, long)) long c.put_story.ensures.written in record { answer = both.0; written = both.1 }
