-- The stored set that a normaliser leaves in its two lent lists: the slots and the excesses that were asked for, which are the lists' beginnings, with the precision of
-- its answer. Cited by the promises. Definitions only. Assumes nothing.
use Rattle.std.specs.Prelude.{List, ◌*◌, ℤ, length, take, Float, Result, ℕ}
use Rattle.windows.specs.declared.Store.{Store}
use Rattle.windows.specs.Set.{Set, set_of, Stored, stored_of, windows}
use Rattle.normalizer.specs.Answer.{normalized_of, written_of, excesses_of, precision_in}
use Rattle.refusal.specs.declared.Refusal.{Refusal}

module _ (store : Store) (s : Set Float) (out excesses : List ℤ) where
  abbrev pub answer_for : Result ℕ Refusal
  answer_for = normalized_of store s (length out) (length excesses)

  abbrev pub left_set : Stored
  left_set =
      stored_of
      (set_of s.layout (take (windows s.layout * s.layout.window_size_value) (written_of store s (length excesses) out)))
      (precision_in answer_for)
      (take (windows s.layout) (excesses_of store s (length out) excesses))
