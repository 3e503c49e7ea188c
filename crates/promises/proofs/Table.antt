-- The table of fourteen, by computation: here rows 1 to 6, in `weight_precision` rows 7 to 9, in `vertical` rows 10 to 12, in `numbers` rows 13 and 14. Assumes nothing.
use mathlib.Core.Path.{refl}
use Rattle.numbers.proofs.Table.{row_13, row_14}
use Rattle.weight_precision.proofs.Table.{row_7, row_8, row_9}
use Rattle.vertical.proofs.Table.{rows_10_to_12}
use Rattle.promises.specs.Table.{TableOfFourteen}

pub table_of_fourteen : TableOfFourteen
table_of_fourteen = (
  refl,
  refl,
  refl,
  refl,
  refl,
  (refl, refl),
  row_7,
  row_8,
  row_9,
  rows_10_to_12.0,
  rows_10_to_12.1,
  rows_10_to_12.2,
  row_13,
  row_14,
)
