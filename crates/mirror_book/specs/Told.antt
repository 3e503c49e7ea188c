-- What the release book tells a caller in C: each number of a report in a place of its own. Cited by the contracts of `mirror_book`. Definitions only. Assumes nothing.
use Rattle.std.specs.Prelude.{ℕ, ℤ}
use Rattle.book_numbers.specs.declared.Report.{Report}

-- eight numbers as a report
abbrev pub reported : ℕ → ℕ → ℤ → ℤ → ℕ → ℕ → ℕ → ℕ → Report
reported sheets windows least most notflat negative stopped byte = record {
  sheets = sheets;
  windows = windows;
  least = least;
  most = most;
  notflat = notflat;
  negative = negative;
  stopped = stopped;
  byte = byte;
}
