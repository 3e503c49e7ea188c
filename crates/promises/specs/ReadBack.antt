-- "It accepts exactly the texts the writer can write for a set that the u16 pass would take. Reading what was written gives the same set; writing what was read gives the same
-- bytes." Of both readers: `wide` is true for `read_sheet` and false for `read_sheet16`; r and left are an answer and lists that meet the reader's contract. Statements only.
-- Assumes nothing.
use Rattle.std.specs.Prelude.{◌≡◌, Bool, false, List, ℕ, ◌+◌, ◌*◌, ◌≤◌, ◌<◌, pos, length, take, Result, Ok}
use Rattle.text.specs.Text.{over}
use Rattle.filters.specs.declared.FilterType.{FilterType}
use Rattle.windows.specs.Set.{Stored, layout_of, set_of, stored_of, windows, size, weight}
use Rattle.windows.specs.Store.{bad_precision}
use Rattle.vertical.specs.Passed.{number_of as numberOfPassed}
use Rattle.vertical.specs.U16.{passed_u16}
use Rattle.sheet.specs.Answer.{answer_of, written_of, number_of as numberOfSheet}
use Rattle.sheet.specs.Text.{sheet_text_value}
use Rattle.scan.specs.Number.{Inside}
use Rattle.sheet_scan.specs.declared.Sizes.{Sizes}
use Rattle.sheet_scan.specs.declared.StoreLines.{StoreLines}
use Rattle.sheet_scan.specs.Language.{store_named_value, Taken, limit_of_value, Accepted, Blank, Acceptable, Longest}
use Rattle.reader.specs.declared.Unread.{Unread}
use Rattle.reader.specs.Reading.{Lists, lists, room_of, TooLittle, Reads, number_of, byte_of}

-- the set that the lists hold, as the answer beside them says
abbrev pub held_in : Sizes → StoreLines → Lists → Stored
held_in v w l =
    stored_of
    (set_of (layout_of v.lines v.window_size (take v.windows l.starts) (take v.windows l.sizes)) (take (v.windows * v.window_size) l.weights))
    w.precision
    (take v.windows l.excesses)

-- what an answer says of a set, and the lists with the set over their beginnings
abbrev pub sizes_in : FilterType → Stored → Sizes
sizes_in kind s = record { kind = kind; lines = s.set.layout.lines; windows = windows s.set.layout; window_size = s.set.layout.window_size_value }

abbrev pub store_in : ℕ → Stored → StoreLines
store_in bits s = record { bits = bits; precision = s.precision }

abbrev pub left_in : Stored → Lists → Lists
left_in s lent = lists (over s.set.weights lent.weights) (over s.set.layout.starts lent.starts) (over s.set.layout.sizes lent.sizes) (over s.excesses lent.excesses)

-- No. 7 is due: the four lines are right, and too little is lent
abbrev pub Few : List ℕ → Lists → Type 0
Few text lent = TooLittle text (room_of lent)

module _ (wide : Bool) where
  -- a text is loaded exactly when it is acceptable, unless No. 7 is due, and No. 7 is answered exactly when it is due
  abbrev pub LoadedExactly : Type 0
  LoadedExactly =
      (text : List ℕ) (lent : Lists) (r : Result (Sizes × StoreLines) Unread) (left : Lists) → Reads wide text lent r left
      → (number_of r ≡ 0 → Acceptable wide text × (Few text lent → ⊥)) × (Acceptable wide text → (Few text lent → ⊥) → number_of r ≡ 0)
      × (number_of r ≡ 7 → Few text lent) × (Few text lent → number_of r ≡ 7)

  -- reading what was written, with enough lent, gives the same set, where its slots past the windows' sizes are 0
  abbrev pub ReadOfWritten : Type 0
  ReadOfWritten =
      (kind : FilterType) (bits : ℕ) (s : Stored) (lent : Lists) (r : Result (Sizes × StoreLines) Unread) (left : Lists) → Accepted wide bits s → Blank s
      → windows s.set.layout * s.set.layout.window_size_value ≤ length lent.weights → windows s.set.layout ≤ length lent.starts → windows s.set.layout ≤ length lent.sizes → windows s.set.layout ≤ length lent.excesses
      → Reads wide (sheet_text_value kind (store_named_value bits) s) lent r left → (r ≡ Ok ((sizes_in kind s), (store_in bits s))) × (left ≡ left_in s lent)

  -- what was read is an accepted set, 0 in the slots past the windows' sizes, whose sheet the text is; writing it again, with room, gives the text
  abbrev pub WrittenOfRead : Type 0
  WrittenOfRead =
      (text : List ℕ) (lent : Lists) (v : Sizes) (w : StoreLines) (left : Lists) → Reads wide text lent (Ok (v, w)) left
      → Accepted wide w.bits (held_in v w left) × Blank (held_in v w left) × (sheet_text_value v.kind (store_named_value w.bits) (held_in v w left) ≡ text)
      × ((old : List ℕ) → length text ≤ length old → (numberOfSheet (answer_of v.kind (store_named_value w.bits) (held_in v w left) (length old)) ≡ 0) × (written_of v.kind (store_named_value w.bits) (held_in v w left) old ≡ over text old))

  -- the place of No. 13: so many bytes begin an acceptable text, and no more of them do; and a refusal leaves the lists as they were
  abbrev pub PlaceOfRefusal : Type 0
  PlaceOfRefusal =
      (text : List ℕ) (lent : Lists) (r : Result (Sizes × StoreLines) Unread) (left : Lists) → Reads wide text lent r left
      → (number_of r ≡ 13 → Longest wide text (byte_of r) × (Acceptable wide text → ⊥)) × ((number_of r ≡ 0 → ⊥) → left ≡ lent)

  -- an accepted set is one that the u16 pass takes with every frame, columns and output that fit, its precision and weights in use those of its store; and each such set is accepted
  abbrev pub PassTakes : Type 0
  PassTakes =
      (bits : ℕ) (s : Stored)
      → (Accepted wide bits s → (row first count : ℕ) → 1 ≤ row → row ≤ 32768 → first + count ≤ row → numberOfPassed (passed_u16 s (s.set.layout.lines * row) row first count (windows s.set.layout * count)) ≡ 0)
      × ((samples row first count room : ℕ) → numberOfPassed (passed_u16 s samples row first count room) ≡ 0 → Taken wide bits → bad_precision (store_named_value bits) s.precision ≡ false → ((i k : ℕ) → i < windows s.set.layout → k < size s.set.layout i → Inside (limit_of_value bits) (weight s.set (pos 0) i k)) → Accepted wide bits s)
