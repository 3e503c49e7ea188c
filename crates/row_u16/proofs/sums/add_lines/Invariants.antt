-- After k lines every sum has k terms, and its size is carried beside it (`Added`). Assumes nothing.
use mathlib.Core.Path.{◌≡◌}
use Prim.Native.Nat.{◌+◌, ◌*◌}
use Rattle.row_u16.proofs.Sizes.{Added}
use Rattle.row_u16.proofs.sums.add_lines.Given as goal

abbrev pub invariant-loop-w : goal.invariant-loop-w
invariant-loop-w l = (l.at ≡ l.at0 + l.w-index * l.row) × Added l.ws l.src l.at0 l.row l.initial.ss l.w-index l.ss
