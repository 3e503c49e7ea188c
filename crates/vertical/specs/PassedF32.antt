-- The answer of the f32 pass: document 01's number for each case, the count beside it, and what it says of the output. Cited by its contract and by the promises.
-- Definitions only. Assumes nothing.
use Rattle.std.specs.Prelude.{ℕ, Result, Ok, Err}
use Rattle.std.specs.Result.{result_unwrap_or}
use Rattle.refusal.specs.Refusal.{number_in}
use Rattle.refusal.specs.declared.Refusal.{Refusal}

abbrev pub number_of : Result ℕ Refusal → ℕ
number_of = number_in

-- how many samples of the output are infinite: 0 where none was written
abbrev pub infinite_in : Result ℕ Refusal → ℕ
infinite_in answer = result_unwrap_or answer 0

-- the output after a pass: written where it is done, unchanged where it is refused
abbrev pub after : {A : Type 0} → Result ℕ Refusal → A → A → A
after (Ok infinite) written old = written
after (Err refusal) written old = old
