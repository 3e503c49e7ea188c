-- `lines::put_list` meets its contract: before turn j the first j numbers are laid. Assumes nothing.
use Prim.Native.Nat.{◌≤◌}
use lib.ListN.{length}
use Rattle.text.specs.Text.{joined}
use Rattle.text.proofs.TextLaws.{Laid}
use Rattle.sheet.specs.Text.{item_at}
use Rattle.sheet_text.proofs.lines.put_list.Given as goal

abbrev pub invariant-loop-j : goal.invariant-loop-j
invariant-loop-j l = (l.j ≤ length l.list) × Laid l.at (joined (item_at l.list 0) l.j) l.initial.out l.p l.out
