-- `lines::put_lines` meets its contract: before turn k the lines of the first k camera lines are laid. Assumes nothing.
use Prim.Native.Nat.{◌≤◌}
use Rattle.text.specs.Text.{joined}
use Rattle.text.proofs.TextLaws.{Laid}
use Rattle.excesses.specs.Slots.{slot_from}
use Rattle.story_text.specs.There.{sample_from}
use Rattle.story_text.specs.Text.{camera_at}
use Rattle.story_text.proofs.lines.put_lines.Given as goal

abbrev pub invariant-loop-k : goal.invariant-loop-k
invariant-loop-k l = (l.k ≤ l.size) × Laid l.at (joined (camera_at l.start.0 (slot_from l.weights l.from) (sample_from l.src l.row l.column l.start.0)) l.k) l.initial.out l.p l.out
