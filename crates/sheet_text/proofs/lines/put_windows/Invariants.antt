-- `lines::put_windows` meets its contract: before turn i the first i lines are laid; a turn lays the three parts of one line (`line_more`). Assumes nothing.
use Prim.Native.Nat.{◌≤◌}
use lib.ListN.{length}
use Rattle.text.specs.Text.{joined}
use Rattle.text.proofs.TextLaws.{Laid}
use Rattle.sheet.specs.Text.{window_at}
use Rattle.sheet_text.proofs.lines.put_windows.Given as goal

abbrev pub invariant-loop-i : goal.invariant-loop-i
invariant-loop-i g l = (l.i ≤ length l.starts) × Laid l.at (joined (window_at l.starts l.sizes l.window (g.W.Weight.values l.weights)) l.i) l.initial.out l.p l.out
