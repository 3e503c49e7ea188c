-- `decimal::put_number` meets its contract: before turn i the first i digits are laid (`laid_slot`). Assumes nothing.
use Prim.Native.Nat.{◌≤◌}
use Rattle.lists.specs.Tab.{tab}
use Rattle.text.specs.Text.{digit_at_value}
use Rattle.text.proofs.TextLaws.{Laid}
use Rattle.text.proofs.decimal.put_number.Given as goal

abbrev pub invariant-loop-i : goal.invariant-loop-i
invariant-loop-i l = (l.i ≤ l.k) × Laid l.at (tab 0 l.i (digit_at_value l.n l.k)) l.initial.out l.p l.out
