-- A store of integer weights: its two numbers, the largest precision, and which precisions a stored set may have. Cited by the contracts of the normalisers, the
-- u16 pass and the sheet writer, and by the promises. `Store` is the code's own struct. Definitions only. Assumes nothing.
use Rattle.std.specs.Prelude.{Bool, ℕ, ◌+◌, ◌-◌}
use Rattle.lists.specs.Ranges.{outside}
use Rattle.windows.specs.declared.Store.{Store}

-- sums of weight x sample have `bits` bits above those of a sample, a weight has `limit` bits and a sign
abbrev pub store16 : Store
store16 = record { bits = 22; limit = 15 }

abbrev pub store32 : Store
store32 = record { bits = 46; limit = 31 }

-- 21 in the 16-bit store, 45 in the 32-bit one
abbrev pub largest_precision : Store → ℕ
largest_precision store = store.bits - 1

-- 16 and 32: the bits of a weight, which name the store
abbrev pub weight_bits : Store → ℕ
weight_bits store = store.limit + 1

-- No. 10: a precision outside 4 to the largest
abbrev pub bad_precision : Store → ℕ → Bool
bad_precision store precision = outside 4 (largest_precision store) precision
