-- The answer of a pass over integers: document 01's number for each case, and what it says of the output. Cited by the contract of the u16 pass and by the promises.
-- Definitions only. Assumes nothing.
use Rattle.std.specs.Prelude.{ℕ, Result, Ok, Err, ⊤}
use Rattle.refusal.specs.Refusal.{number_in}
use Rattle.refusal.specs.declared.Refusal.{Refusal}

abbrev pub number_of : Result ⊤ Refusal → ℕ
number_of = number_in

-- the output after a pass: written where it is done, unchanged where it is refused
abbrev pub after : {A : Type 0} → Result ⊤ Refusal → A → A → A
after (Ok tt) written old = written
after (Err refusal) written old = old
