-- What the functions of `store_sets` give. Cited by their contracts. Definitions only. Assumes nothing.
use Rattle.std.specs.Prelude.{List, ℕ, ℤ, Result, Ok, Err}
use Rattle.text.specs.Text.{laid}
use Rattle.coefficients.specs.declared.NotBuilt.{NotBuilt}
use Rattle.coefficients.specs.declared.NotBuilt.TheVariants.{Refused}
use Rattle.refusal.specs.declared.Refusal.{Refusal}
use Rattle.made_sets.specs.Made.{Made, new, none}

-- what was made, as numbers: window size and precision of a new set
unfoldable pub outcome : Made → Result (ℕ × ℕ) NotBuilt
outcome (new s) = Ok (s.set.layout.window_size_value, s.precision)
outcome (none error) = Err error

-- a client's slots and its excesses afterwards
unfoldable pub slots_after : Made → List ℤ → List ℤ
slots_after (new s) old = laid old 0 s.set.weights
slots_after (none answer) old = old

unfoldable pub excesses_after : Made → List ℤ → List ℤ
excesses_after (new s) old = laid old 0 s.excesses
excesses_after (none answer) old = old

-- the answer for a set of window size w, by the normaliser's
abbrev pub told : ℕ → Result ℕ Refusal → Result (ℕ × ℕ) NotBuilt
told w (Ok precision) = Ok (w, precision)
told w (Err refusal) = Err (Refused refusal)
