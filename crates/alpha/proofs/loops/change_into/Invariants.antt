-- Before turn q the first q pixels are changed and the rest is as it was; a turn stores one pixel more (`word_more`). Assumes nothing.
use Prim.Native.Nat.{ℕ, ◌*◌}
use Rattle.lists.proofs.TabLaws.{Written}
use Rattle.pixel_lists.specs.Lists.{component_at}
use Rattle.alpha.specs.Words.{Changes}
use Rattle.alpha.proofs.loops.change_into.Given as goal

abbrev pub invariant-loop-q : goal.invariant-loop-q
invariant-loop-q g l = (op : ℕ → ℕ → ℕ) → Changes op (goal.F-post g l.change) → Written (l.q * 4) (component_at op l.src) l.initial.dst l.dst
