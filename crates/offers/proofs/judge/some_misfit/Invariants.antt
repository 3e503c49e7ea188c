-- `judge::some_misfit` meets its contract: before turn k `bad` says whether one of the first k weights misfits. Assumes nothing.
use mathlib.Core.Path.{◌≡◌}
use Prim.Native.Nat.{◌≤◌}
use Rattle.lists.specs.Tab.{any}
use Rattle.excesses.specs.Slots.{slot_from}
use Rattle.offers.specs.Repair.{bad_weight}
use Rattle.offers.proofs.judge.some_misfit.Given as goal

abbrev pub invariant-loop-k : goal.invariant-loop-k
invariant-loop-k g l =
    let weight = g.W.Weight in
    (l.k ≤ l.n) × (l.bad ≡ any l.k (bad_weight l.limit (slot_from (weight.values l.weights) l.a) (slot_from (weight.values l.offered) l.a)))
