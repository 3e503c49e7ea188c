-- The law of `turns`: what a loop that folds in line order asks for. Cited by the builder's total and by the numbers of an edge. Assumes nothing.
use mathlib.Core.Path.{◌≡◌}
use Prim.Native.Nat.{ℕ, ◌+◌}
use native.Mathlib.Numerals.{add-one}
use Rattle.lists.specs.Tab.{turns}

-- one turn more
pub turns_more : {A : Type 0} (step : A → ℕ → A) (a : A) (k : ℕ) → step (turns step a k) k ≡ turns step a (k + 1)
turns_more step a k = rw add-one
