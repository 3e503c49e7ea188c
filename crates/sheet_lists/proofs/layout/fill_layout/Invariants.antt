-- `fill_layout`: after i turns the first i starts, sizes and excesses are those of the lines, and the next line is at p (`Listed`). Assumes nothing.
use Rattle.sheet_lists.proofs.LayoutLaws.{Listed}
use Rattle.sheet_lists.proofs.layout.fill_layout.Given as goal

abbrev pub invariant-loop-i : goal.invariant-loop-i
invariant-loop-i l = Listed l.lines l.window l.limit l.outs l.precision l.text l.at l.initial.starts l.initial.sizes l.initial.excesses l.starts l.sizes l.excesses l.p l.i
