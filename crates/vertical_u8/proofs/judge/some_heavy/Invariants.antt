-- After i turns `bad` says whether one of the first i windows is too heavy; a turn more is one step of `any`. Assumes nothing.
use mathlib.Core.Path.{◌≡◌}
use Rattle.lists.specs.Tab.{any}
use Rattle.vertical_u8.specs.Inner.{slot_heavy}
use Rattle.vertical_u8.proofs.judge.some_heavy.Given as goal

abbrev pub invariant-loop-i : goal.invariant-loop-i
invariant-loop-i l = l.bad ≡ any l.i (slot_heavy l.window l.weights l.sizes l.p)
