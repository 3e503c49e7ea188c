-- What the readers tell a caller in C: a reading's number, the numbers of its head and its byte, each in a place of its own. Cited by the contracts of
-- `mirror_readers`. Definitions only. Assumes nothing.
use Rattle.std.specs.Prelude.{◌≡◌, Bool, List, ℕ, Result, Ok, Err}
use Rattle.sheet_scan.specs.declared.Sizes.{Sizes}
use Rattle.sheet_scan.specs.declared.StoreLines.{StoreLines}
use Rattle.reader.specs.declared.Unread.{Unread}
use Rattle.reader.specs.Reading.{Lists, Reads, number_of, byte_of}
use Rattle.codes.specs.Codes.{code_of}
use Rattle.mirror_readers.specs.declared.Head.{Head}

-- six numbers as a head
abbrev pub headed : ℕ → ℕ → ℕ → ℕ → ℕ → ℕ → Head
headed filter lines windows window_size_value store precision = record { filter = filter; lines = lines; windows = windows; window_size = window_size_value; store = store; precision = precision }

abbrev pub no_head : Head
no_head = headed 0 0 0 0 0 0

-- what a sheet's head lines say, the filter by its code
abbrev pub said_by : Sizes → StoreLines → Head
said_by v w = headed (code_of v.kind) v.lines v.windows v.window_size w.bits w.precision

abbrev pub head_of : Result (Sizes × StoreLines) Unread → Head
head_of (Ok (v, w)) = said_by v w
head_of (Err unread) = no_head

-- some reading of the text is told: its number, its head and its byte, and the lists are as it leaves them
pub record Tells (wide : Bool) (text : List ℕ) (lent left : Lists) (no : ℕ) (head : Head) (byte : ℕ) : Type 0 where
  pub reading : Result (Sizes × StoreLines) Unread
  pub reads : Reads wide text lent reading left
  pub number : no ≡ number_of reading
  pub said : head ≡ head_of reading
  pub place : byte ≡ byte_of reading
