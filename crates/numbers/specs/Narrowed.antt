-- What narrowing answers: the value, and whether it is an infinity, be it that x was too large or an infinity itself. Cited by the contracts of `narrow` and
-- `narrow_bits`. Definitions only. Assumes nothing.
use Rattle.std.specs.Prelude.{ℕ, from_bits, to_bits, Float}
use Rattle.std.specs.Float.{binary32, binary64}
use Rattle.numbers.specs.declared.Narrowed.{Narrowed}
use Rattle.numbers.specs.declared.NarrowedBits.{NarrowedBits}
use Rattle.numbers.specs.Whole.{narrow, is_infinite}

-- of a value
abbrev pub narrowed_of : Float → Narrowed
narrowed_of x = record { value = narrow x; infinite = is_infinite (narrow x) }

-- of the value that a pattern stands for, as a pattern
abbrev pub narrowed_bits : ℕ → NarrowedBits
narrowed_bits b = record { value = to_bits binary32 (narrow (from_bits binary64 b)); infinite = is_infinite (narrow (from_bits binary64 b)) }
