-- `fill_slots`: after i turns the rows of the first i windows are filled, and the next line is at p (`Slotted`). Assumes nothing.
use mathlib.Core.Path.{◌≡◌}
use Rattle.sheet_lists.proofs.SlotLaws.{Slotted}
use Rattle.sheet_lists.proofs.slots.fill_slots.Given as goal

abbrev pub invariant-loop-i : goal.invariant-loop-i
invariant-loop-i g l = (l.wide ≡ l.window) × Slotted l.lines l.window l.limit l.outs l.text l.at (g.W.Weight.values l.initial.weights) (g.W.Weight.values l.weights) l.p l.a l.i
