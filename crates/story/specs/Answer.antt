-- The answer of `story`: No. 1, 10 and 11 in the order of judging, and what the lent list holds afterwards. Cited by its contract and by the promises. Definitions only.
-- Assumes nothing.
use Rattle.std.specs.Prelude.{Bool, cond, not, ◌||◌, List, ℕ, ltb, length, Result, Ok, Err}
use Rattle.std.specs.Result.{result_unwrap_or}
use Rattle.text.specs.Text.{over}
use Rattle.refusal.specs.declared.Refusal.{Refusal}
use Rattle.refusal.specs.declared.Refusal.TheVariants.{BadSide, DoesNotFit, NoRoom}
use Rattle.refusal.specs.Refusal.{number_in}
use Rattle.windows.specs.Set.{Stored, windows}
use Rattle.windows.specs.Store.{store32}
use Rattle.windows.specs.Fit.{bad_stored}
use Rattle.sheet.specs.Answer.{no_room}
use Rattle.vertical.specs.Frame.{frame, bad_size, bad_frame}
use Rattle.story_text.specs.Text.{story_text_value}

-- No. 10: a place that does not exist, display line i of so many windows or column j of a row
abbrev pub bad_place : ℕ → ℕ → ℕ → ℕ → Bool
bad_place windows row i j = not (ltb i windows) || not (ltb j row)

-- the one choice: No. 1 and No. 10 as in the u16 pass, No. 10 of the place, No. 11, else done
unfoldable pub by_case : {A : Type 0} → Stored → ℕ → ℕ → ℕ → ℕ → ℕ → ℕ → (Refusal → A) → A → A
by_case s samples row i j room text refused done =
    cond (bad_size s.set.layout.lines (windows s.set.layout) row) (refused BadSide)
    (cond (bad_stored s store32) (refused DoesNotFit)
    (cond (bad_frame samples s.set.layout.lines row) (refused DoesNotFit)
    (cond (bad_place (windows s.set.layout) row i j) (refused DoesNotFit)
    (cond (no_room room text) (refused NoRoom)
    done))))

module _ (s : Stored) (src : List ℕ) (row i j : ℕ) where
  -- the story of display line i and column j of the frame
  abbrev pub text_of : List ℕ
  text_of = story_text_value s (frame 0 src row) i j

  -- the answer, where there is room for so many bytes: how many were written, or the refusal
  abbrev pub answer_of : ℕ → Result ℕ Refusal
  answer_of room = by_case s (length src) row i j room (length text_of) Err (Ok (length text_of))

  -- the lent list afterwards: the text over its beginning, unchanged where refused
  abbrev pub written_of : List ℕ → List ℕ
  written_of old = by_case s (length src) row i j (length old) (length text_of) (λ refusal. old) (over text_of old)

-- 01's number of an answer, and the length beside it
abbrev pub number_of : Result ℕ Refusal → ℕ
number_of = number_in

abbrev pub length_of : Result ℕ Refusal → ℕ
length_of answer = result_unwrap_or answer 0
