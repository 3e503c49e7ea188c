-- `bytes::put` meets its contract: before turn i the first i bytes are laid (`laid_slot`). Assumes nothing.
use Prim.Native.Nat.{◌≤◌}
use lib.ListN.{length, get_or}
use Rattle.lists.specs.Tab.{tab}
use Rattle.text.proofs.TextLaws.{Laid}
use Rattle.text.proofs.bytes.put.Given as goal

abbrev pub invariant-loop-b : goal.invariant-loop-b
invariant-loop-b l = (l.b-index ≤ length l.s) × Laid l.at (tab 0 l.b-index (λ k. get_or l.s k 0)) l.initial.out l.p l.out
