-- Before turn q the first q pixels are changed and the rest is as it was; the pixel that a turn reads is not changed yet (`still`, `still_word`). Assumes nothing.
use Prim.Native.Nat.{ℕ, ◌*◌}
use Rattle.lists.proofs.TabLaws.{Written}
use Rattle.pixel_lists.specs.Lists.{component_at}
use Rattle.alpha.specs.Words.{Changes}
use Rattle.alpha.proofs.loops.change_within.Given as goal

abbrev pub invariant-loop-q : goal.invariant-loop-q
invariant-loop-q g l = (op : ℕ → ℕ → ℕ) → Changes op (goal.F-post g l.change) → Written (l.q * 4) (component_at op l.initial.pixels) l.initial.pixels l.pixels
