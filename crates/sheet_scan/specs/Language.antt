-- The acceptable texts: what the writer writes for a set that the u16 pass takes, with weights of the store's type. Cited by the reader's answer and by the
-- promises about it. Definitions only. Assumes nothing.
use Rattle.std.specs.Prelude.{◌≡◌, Bool, true, false, cond, List, ◌++◌, ◌⊎◌, ℕ, ◌^◌, ◌≤◌, ◌<◌, eqb, pos, length, take}
use Rattle.lists.specs.Ranges.{bad_sides_value}
use Rattle.filters.specs.declared.FilterType.{FilterType}
use Rattle.windows.specs.declared.Store.{Store}
use Rattle.windows.specs.Set.{Stored, windows, size, weight}
use Rattle.windows.specs.Store.{store16, store32}
use Rattle.windows.specs.Fit.{bad_stored}
use Rattle.sheet.specs.Text.{sheet_text_value}
use Rattle.scan.specs.Form.{Form}
use Rattle.scan.specs.Number.{Inside}

-- the store that the bits of its weights name, 16 or 32
abbrev pub store_named_value : ℕ → Store
store_named_value bits = cond (eqb bits 16) store16 store32

-- the bits that a reader takes: 16, and where `wide` 32 too
abbrev pub Taken : Bool → ℕ → Type 0
Taken wide bits = (bits ≡ 16) ⊎ ((wide ≡ true) × (bits ≡ 32))

-- a store's weights are from -limit to limit - 1: -32,768 to 32,767 with 16 bits, -2^31 to 2^31 - 1 with 32
abbrev pub limit_of_value : ℕ → ℕ
limit_of_value bits = 2 ^ (store_named_value bits).limit

-- a set that passes the judge, with the precision of its store and right excesses, and its weights in use inside the store's type
pub record Accepted (wide : Bool) (bits : ℕ) (s : Stored) : Type 0 where
  pub taken : Taken wide bits
  pub sides : bad_sides_value s.set.layout.lines (windows s.set.layout) ≡ false
  pub fits : bad_stored s (store_named_value bits) ≡ false
  pub inside : (i k : ℕ) → i < windows s.set.layout → k < size s.set.layout i → Inside (limit_of_value bits) (weight s.set (pos 0) i k)

-- the slots past each window's size are 0
abbrev pub Blank : Stored → Type 0
Blank s = (i k : ℕ) → i < windows s.set.layout → size s.set.layout i ≤ k → k < s.set.layout.window_size_value → weight s.set (pos 0) i k ≡ pos 0

-- a text that the writer can write for some such set
pub record Acceptable (wide : Bool) (text : List ℕ) : Type 0 where
  pub kind : FilterType
  pub bits : ℕ
  pub set : Stored
  pub accepted : Accepted wide bits set
  pub is : text ≡ sheet_text_value kind (store_named_value bits) set

-- n bytes of the text begin an acceptable text, and no more of its bytes do
pub record Longest (wide : Bool) (text : List ℕ) (n : ℕ) : Type 0 where
  pub within : n ≤ length text
  pub rest : List ℕ
  pub begins : Acceptable wide (take n text ++ rest)
  pub most : (m : ℕ) → m ≤ length text → (rest : List ℕ) → Acceptable wide (take m text ++ rest) → m ≤ n

-- a kind, the bits of a store and a set, as a sheet names them
pub record Whole : Type 0 where
  pub kind : FilterType
  pub bits : ℕ
  pub set : Stored

-- the form of a whole sheet: an accepted set whose slots past the windows' sizes are 0. Its texts are the acceptable ones
abbrev pub sheets : Bool → Form Whole
sheets wide = record {
  Good = λ w. Accepted wide w.bits w.set × Blank w.set;
  text = λ w. sheet_text_value w.kind (store_named_value w.bits) w.set;
}
