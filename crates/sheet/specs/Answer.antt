-- The writers' answers: No. 1, 10 and 11 in 01's order, and what the lent list holds afterwards. Cited by the two writers. Definitions only.
-- Assumes nothing.
use Rattle.std.specs.Prelude.{Bool, cond, List, ℕ, ltb, length, Result, Ok, Err}
use Rattle.std.specs.Result.{result_unwrap_or}
use Rattle.lists.specs.Ranges.{bad_sides_value}
use Rattle.text.specs.Text.{over}
use Rattle.refusal.specs.declared.Refusal.{Refusal}
use Rattle.refusal.specs.declared.Refusal.TheVariants.{BadSide, DoesNotFit, NoRoom}
use Rattle.refusal.specs.Refusal.{number_in}
use Rattle.filters.specs.declared.FilterType.{FilterType}
use Rattle.windows.specs.declared.Store.{Store}
use Rattle.windows.specs.Set.{Stored, windows}
use Rattle.windows.specs.Fit.{bad_stored}
use Rattle.sheet.specs.Text.{sheet_text_value}

-- No. 11: the room is less than the text
abbrev pub no_room : ℕ → ℕ → Bool
no_room room text = ltb room text

-- the one choice: No. 1, No. 10, No. 11, else done
unfoldable pub by_case : {A : Type 0} → Store → Stored → ℕ → ℕ → (Refusal → A) → A → A
by_case store s room text refused done =
    cond (bad_sides_value s.set.layout.lines (windows s.set.layout)) (refused BadSide)
    (cond (bad_stored s store) (refused DoesNotFit)
    (cond (no_room room text) (refused NoRoom)
    done))

-- the answer: how many bytes were written, or the refusal
abbrev pub answer_of : FilterType → Store → Stored → ℕ → Result ℕ Refusal
answer_of kind store s room = by_case store s room (length (sheet_text_value kind store s)) Err (Ok (length (sheet_text_value kind store s)))

-- the lent list afterwards: the text over its beginning, unchanged where refused
abbrev pub written_of : FilterType → Store → Stored → List ℕ → List ℕ
written_of kind store s old = by_case store s (length old) (length (sheet_text_value kind store s)) (λ refusal. old) (over (sheet_text_value kind store s) old)

-- 01's number of an answer, and the length beside it
abbrev pub number_of : Result ℕ Refusal → ℕ
number_of = number_in

abbrev pub length_of : Result ℕ Refusal → ℕ
length_of answer = result_unwrap_or answer 0
