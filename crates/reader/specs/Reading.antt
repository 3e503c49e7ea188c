-- What the readers answer, and what the lent lists hold afterwards. `wide` is true for `read_sheet`, false for `read_sheet16`. Cited by both and by what judges for them.
-- Definitions only. Assumes nothing.
use Rattle.std.specs.Prelude.{Result, Ok, Err, ◌≡◌, Bool, true, false, ◌||◌, List, ℕ, ◌*◌, ltb, ℤ, length}
use Rattle.text.specs.Text.{over}
use Rattle.refusal.specs.declared.Refusal.TheVariants.{TooFewSlots, NotASheet as NotOfAForm}
use Rattle.refusal.specs.Refusal.{number_of as refusalNumber, answer_number}
use Rattle.windows.specs.Set.{Stored, windows}
use Rattle.sheet.specs.Text.{sheet_text_value}
use Rattle.scan.specs.Form.{Found}
use Rattle.scan.specs.Forms.{fixed}
use Rattle.sheet_scan.specs.declared.Sizes.{Sizes}
use Rattle.sheet_scan.specs.declared.StoreLines.{StoreLines}
use Rattle.sheet_scan.specs.Language.{store_named_value, Accepted, Blank, Acceptable, Longest}
use Rattle.sheet_scan.specs.Lines.{Row, size_lines, store_lines}
use Rattle.sheet_scan.specs.Whole.{lines_of, excess_line}
use Rattle.reader.specs.declared.Unread.{Unread}
use Rattle.reader.specs.declared.Unread.TheVariants.{TooFew, NotASheet}

-- four lists: weights, starts, sizes and excesses
pub record Lists : Type 0 where
  pub weights : List ℤ
  pub starts : List ℕ
  pub sizes : List ℕ
  pub excesses : List ℤ

abbrev pub lists : List ℤ → List ℕ → List ℕ → List ℤ → Lists
lists weights starts sizes excesses = record { weights = weights; starts = starts; sizes = sizes; excesses = excesses }

-- how many places of each are lent
pub record Room : Type 0 where
  pub slots : ℕ
  pub starts : ℕ
  pub sizes : ℕ
  pub excesses : ℕ

abbrev pub room_for : ℕ → ℕ → ℕ → ℕ → Room
room_for slots starts sizes excesses = record { slots = slots; starts = starts; sizes = sizes; excesses = excesses }

abbrev pub room_of : Lists → Room
room_of l = room_for (length l.weights) (length l.starts) (length l.sizes) (length l.excesses)

-- fewer slots, starts, sizes or excesses than the windows need
abbrev pub too_few_slots : Sizes → Room → Bool
too_few_slots v room =
    ((ltb room.slots (v.windows * v.window_size) || ltb room.starts v.windows) || ltb room.sizes v.windows) || ltb room.excesses v.windows

-- No. 7: the kind line and the three size lines are right, and too little is lent for what they say
pub record TooLittle (text : List ℕ) (room : Room) : Type 0 where
  pub says : Sizes
  pub next : ℕ
  pub right : Found size_lines text 0 says next
  pub less : too_few_slots says room ≡ true

-- No. 13: no acceptable text, and the byte where its longest acceptable beginning ends
pub record NotOfThisForm (wide : Bool) (text : List ℕ) (room : Room) (n : ℕ) : Type 0 where
  pub not_seven : TooLittle text room → ⊥
  pub wrong : Acceptable wide text → ⊥
  pub byte : Longest wide text n

-- the text is a sheet, its windows' lines from `mid` to `tail` and the line of the excesses from there to its end, and enough is lent
pub record Readable (wide : Bool) (text : List ℕ) (room : Room) (v : Sizes) (w : StoreLines) (mid : ℕ) : Type 0 where
  pub first : ℕ
  pub sized : Found size_lines text 0 v first
  pub stored : Found (store_lines wide) text first w mid
  pub rows : List Row
  pub tail : ℕ
  pub lined : Found (lines_of v w) text mid rows tail
  pub excess : Found (fixed (excess_line w.precision rows)) text tail tt (length text)
  pub enough : too_few_slots v room ≡ false

-- why a text is not read
abbrev pub NotRead : Bool → List ℕ → Room → Unread → Type 0
NotRead wide text room TooFew = TooLittle text room
NotRead wide text room (NotASheet n) = NotOfThisForm wide text room n

-- what a text is judged to be
abbrev pub Judges : Bool → List ℕ → Room → Result (Sizes × StoreLines × ℕ) Unread → Type 0
Judges wide text room (Ok (v, w, mid)) = Readable wide text room v w mid
Judges wide text room (Err r) = NotRead wide text room r

-- the text is the sheet of an accepted set whose slots past the windows' sizes are 0; enough is lent, and holds that set from its beginning on
pub record Loads (wide : Bool) (text : List ℕ) (lent : Lists) (v : Sizes) (w : StoreLines) (left : Lists) : Type 0 where
  pub set : Stored
  pub accepted : Accepted wide w.bits set
  pub blank : Blank set
  pub is : text ≡ sheet_text_value v.kind (store_named_value w.bits) set
  pub lines : v.lines ≡ set.set.layout.lines
  pub count : v.windows ≡ windows set.set.layout
  pub window_size_value : v.window_size ≡ set.set.layout.window_size_value
  pub precision : w.precision ≡ set.precision
  pub enough : too_few_slots v (room_of lent) ≡ false
  pub weights : left.weights ≡ over set.set.weights lent.weights
  pub starts : left.starts ≡ over set.set.layout.starts lent.starts
  pub sizes : left.sizes ≡ over set.set.layout.sizes lent.sizes
  pub excesses : left.excesses ≡ over set.excesses lent.excesses

-- the reader's answer
abbrev pub Reads : Bool → List ℕ → Lists → Result (Sizes × StoreLines) Unread → Lists → Type 0
Reads wide text lent (Ok (v, w)) left = Loads wide text lent v w left
Reads wide text lent (Err TooFew) left = TooLittle text (room_of lent) × (left ≡ lent)
Reads wide text lent (Err (NotASheet n)) left = NotOfThisForm wide text (room_of lent) n × (left ≡ lent)

-- the number of an answer, and the byte beside it
abbrev pub unread_number : Unread → ℕ
unread_number TooFew = refusalNumber TooFewSlots
unread_number (NotASheet n) = refusalNumber NotOfAForm

abbrev pub number_of : Result (Sizes × StoreLines) Unread → ℕ
number_of = answer_number unread_number

abbrev pub byte_of : Result (Sizes × StoreLines) Unread → ℕ
byte_of (Ok (v, w)) = 0
byte_of (Err TooFew) = 0
byte_of (Err (NotASheet n)) = n
