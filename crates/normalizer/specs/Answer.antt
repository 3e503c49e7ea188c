-- A normaliser's answer and what its two lists hold afterwards: a test for each of No. 1, 7, 10 and 9, named as its row, and the answer by cases in that order
-- (10 before 9, since weights cannot be read until the lists fit). Cited by the contracts of both normalisers and by the promises.
-- Definitions only. Assumes nothing.
use Rattle.std.specs.Prelude.{Bool, cond, ◌||◌, List, ℕ, ◌+◌, ◌*◌, ltb, ℤ, length, Float, Result, Ok, Err}
use Rattle.std.specs.Result.{result_unwrap_or}
use Rattle.lists.specs.Ranges.{bad_sides_value}
use Rattle.lists.specs.Tab.{any, front}
use Rattle.refusal.specs.Refusal.{number_in}
use Rattle.refusal.specs.declared.Refusal.TheVariants.{BadSide, TooFewSlots, DoesNotFit, WeightOutside}
use Rattle.windows.specs.declared.Store.{Store}
use Rattle.windows.specs.Set.{Set, windows, size, excess}
use Rattle.windows.specs.Fit.{bad_set}
use Rattle.weight_precision.specs.Precision.{precision}
use Rattle.weight_precision.specs.Weights.{not_finite_value, unstorable}
use Rattle.weight_slots.specs.Slots.{slot_at}
use Rattle.refusal.specs.declared.Refusal.{Refusal}

-- `room` slots and `places` for excesses are lent
module _ (store : Store) (s : Set Float) (room places : ℕ) where
  -- No. 7: the list lent for the result is shorter than windows x window size, or that for the excesses than the windows
  abbrev pub too_few_slots : Bool
  too_few_slots = ltb room (windows s.layout * s.layout.window_size_value) || ltb places (windows s.layout)

  -- No. 9: a weight in any slot of the set is not finite, or the precision found does not serve
  abbrev pub bad_weights : Bool
  bad_weights = any (length s.weights) (not_finite_value s.weights) || unstorable store (precision store s.weights) s.layout.window_size_value s.weights s.layout.sizes

  -- the answer
  unfoldable pub normalized_of : Result ℕ Refusal
  normalized_of =
      cond (bad_sides_value s.layout.lines (windows s.layout)) (Err BadSide)
      (cond too_few_slots (Err TooFewSlots)
      (cond (bad_set s.layout (length s.weights)) (Err DoesNotFit)
      (cond bad_weights (Err WeightOutside)
      (Ok (precision store s.weights)))))

-- the excess of window i of the result
abbrev pub excess_at : Store → ℕ → Set Float → ℕ → ℤ
excess_at store p s i = excess p (λ k. slot_at store p s.layout.window_size_value s.weights s.layout.sizes (i * s.layout.window_size_value + k)) (size s.layout i)

-- the slots after an answer: done, the set's slots written and those past them unchanged; refused, all unchanged
unfoldable pub written_by : Store → Set Float → Result ℕ Refusal → List ℤ → List ℤ
written_by store s (Ok p) old = front (windows s.layout * s.layout.window_size_value) (slot_at store p s.layout.window_size_value s.weights s.layout.sizes) old
written_by store s (Err refusal) old = old

-- the excesses after an answer: done, one for each window and those past them unchanged; refused, all unchanged
unfoldable pub excesses_by : Store → Set Float → Result ℕ Refusal → List ℤ → List ℤ
excesses_by store s (Ok p) old = front (windows s.layout) (excess_at store p s) old
excesses_by store s (Err refusal) old = old

-- the slots afterwards, and the excesses
unfoldable pub written_of : Store → Set Float → ℕ → List ℤ → List ℤ
written_of store s places old = written_by store s (normalized_of store s (length old) places) old

unfoldable pub excesses_of : Store → Set Float → ℕ → List ℤ → List ℤ
excesses_of store s room old = excesses_by store s (normalized_of store s room (length old)) old

-- document 01's number of an answer, and the precision beside it
abbrev pub number_of : Result ℕ Refusal → ℕ
number_of = number_in

abbrev pub precision_in : Result ℕ Refusal → ℕ
precision_in answer = result_unwrap_or answer 0
