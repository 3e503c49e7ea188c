-- `row::offer_window` meets its contract: before turn k the first k slots are written, and `seen` counts the weights among the first k that can go. A slot is inside the
-- type, since a weight goes only where it stays there. Assumes nothing.
use mathlib.Core.Path.{◌≡◌}
use Prim.Native.Nat.{◌≤◌}
use lib.ListN.{length}
use Rattle.lists.proofs.TabLaws.{Written}
use Rattle.orders.specs.Count.{count}
use Rattle.excesses.specs.Slots.{slot_from}
use Rattle.offers.specs.Own.{movable, offered_slot}
use Rattle.offer_rows.proofs.row.offer_window.Given as goal

abbrev pub invariant-loop-k : goal.invariant-loop-k
invariant-loop-k g l =
    let weight = g.W.Weight in
    (l.k ≤ length l.initial.row)
    × (l.seen ≡ count (movable weight.STORE.limit l.e (slot_from (weight.values l.weights) l.a)) l.k)
    × Written l.k (offered_slot weight.STORE.limit l.e (slot_from (weight.values l.weights) l.a) l.n) (weight.values l.initial.row) (weight.values l.row)
