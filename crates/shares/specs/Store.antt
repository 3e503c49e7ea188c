-- The store that two clients share: its five lists, the part of each that is a client's, what a client holds, and what it can see. Cited by the machine and by the
-- inner contracts of `shared_store`. Everything is over the client's number c, which may be any number. Definitions only. Assumes nothing.
use Rattle.std.specs.Prelude.{Bool, cond, not, ◌||◌, List, ℕ, ◌+◌, ◌*◌, eqb, ltb, ℤ, length, get_or, take, drop}
use Rattle.windows.specs.Set.{layout_of, set_of, Stored, stored_of}

-- ten numbers, five a client: its share of the slots; camera lines, windows, window size and precision of its set. The slots. 16,384 starts, sizes and excesses, 8,192 a client
pub record Store : Type 0 where
  pub numbers : List ℕ
  pub slots : List ℤ
  pub starts : List ℕ
  pub sizes : List ℕ
  pub excesses : List ℤ

abbrev pub store_of : List ℕ → List ℤ → List ℕ → List ℕ → List ℤ → Store
store_of numbers slots starts sizes excesses = record {
  numbers = numbers;
  slots = slots;
  starts = starts;
  sizes = sizes;
  excesses = excesses;
}

-- n places of a list, from a on
abbrev pub part : {A : Type 0} → ℕ → ℕ → List A → List A
part a n l = take n (drop a l)

-- where a client's starts, sizes and excesses begin
abbrev pub line_base : ℕ → ℕ
line_base c = c * 8192

-- No. 10: lists of other lengths than a store has
abbrev pub bad_lengths : ℕ → ℕ → ℕ → ℕ → Bool
bad_lengths numbers starts sizes excesses = ((not (eqb numbers 10) || not (eqb starts 16384)) || not (eqb sizes 16384)) || not (eqb excesses 16384)

-- No. 10: such lists, shares that are together larger than the store, or no such client
abbrev pub closed_by : List ℕ → ℕ → ℕ → ℕ → ℕ → ℕ → Bool
closed_by numbers slots starts sizes excesses c = (bad_lengths (length numbers) starts sizes excesses || ltb slots (get_or numbers 0 0 + get_or numbers 5 0)) || ltb 1 c

-- No. 10: no set, or numbers that no set in the share has
abbrev pub unset_by : ℕ → ℕ → ℕ → Bool
unset_by share held wide = (eqb held 0 || ltb 8192 held) || ltb share (held * wide)

module _ (s : Store) where
  -- number k of client c
  abbrev pub number : ℕ → ℕ → ℕ
  number c k = get_or s.numbers (c * 5 + k) 0

  abbrev pub share : ℕ → ℕ
  share c = number c 0

  -- the windows of its set, 0 where it has none; and how many slots each has
  abbrev pub held : ℕ → ℕ
  held c = number c 2

  abbrev pub wide : ℕ → ℕ
  wide c = number c 3

  -- where its slots begin: client 1's behind those of client 0
  abbrev pub slot_base : ℕ → ℕ
  slot_base c = c * share 0

  -- the same of its lists
  abbrev pub bad_lists_value : Bool
  bad_lists_value = bad_lengths (length s.numbers) (length s.starts) (length s.sizes) (length s.excesses)

  -- No. 10, judged first of client c; the same from one restart to the next
  unfoldable pub closed : ℕ → Bool
  closed c = closed_by s.numbers (length s.slots) (length s.starts) (length s.sizes) (length s.excesses) c

  -- No. 10: a client without a set in its share; of its own numbers alone
  unfoldable pub unset : ℕ → Bool
  unset c = unset_by (share c) (held c) (wide c)

  -- its set: the beginnings of its parts
  abbrev pub set_at : ℕ → Stored
  set_at c =
      stored_of
      (set_of (layout_of (number c 1) (wide c) (part (line_base c) (held c) s.starts) (part (line_base c) (held c) s.sizes)) (part (slot_base c) (held c * wide c) s.slots))
      (number c 4)
      (part (line_base c) (held c) s.excesses)

-- what a client holds: the weights that its passes use
pub data Held : Type 0 where
  nothing : Held
  holding : Stored → Held

unfoldable pub held_in : Store → ℕ → Held
held_in s c = cond (closed s c || unset s c) nothing (holding (set_at s c))

-- what client c can see: whether the store is closed to it, its share, and what it holds
pub record View : Type 0 where
  pub shut : Bool
  pub room : ℕ
  pub has : Held

abbrev pub view_with : Bool → ℕ → Held → View
view_with shut room has = record { shut = shut; room = room; has = has }

unfoldable pub view_of : Store → ℕ → View
view_of s c = view_with (closed s c) (share s c) (held_in s c)
