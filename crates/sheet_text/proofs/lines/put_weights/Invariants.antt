-- `lines::put_weights` meets its contract: before turn j the first j weights are laid. Assumes nothing.
use Prim.Native.Nat.{◌≤◌}
use Rattle.text.specs.Text.{joined}
use Rattle.text.proofs.TextLaws.{Laid}
use Rattle.sheet.specs.Text.{item_at}
use Rattle.sheet_text.proofs.lines.put_weights.Given as goal

abbrev pub invariant-loop-j : goal.invariant-loop-j
invariant-loop-j g l = (l.j ≤ l.size) × Laid l.at (joined (item_at (g.W.Weight.values l.weights) l.from) l.j) l.initial.out l.p l.out
