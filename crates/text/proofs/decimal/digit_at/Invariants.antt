-- `decimal::digit_at` meets its contract: after so many turns m is n divided by that power of 10. Assumes nothing.
use mathlib.Core.Path.{◌≡◌}
use Prim.Native.Nat.{◌≤◌, ◌/◌, ◌^◌}
use Rattle.text.proofs.decimal.digit_at.Given as goal

abbrev pub invariant-loop : goal.invariant-loop
invariant-loop l = (l.counter ≤ l.p) × (l.m ≡ l.n / 10 ^ l.counter)
