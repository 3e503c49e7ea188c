-- The number for each answer of a restart. Cited by `number` and by the statements. Definitions only. Assumes nothing.
use Rattle.std.specs.Prelude.{ℕ, Result, ⊤}
use Rattle.refusal.specs.Refusal.{number_in}
use Rattle.refusal.specs.declared.Refusal.{Refusal}

abbrev pub number_of : Result ⊤ Refusal → ℕ
number_of = number_in
