-- Text as a list of bytes: numbers in decimal, pieces in a row, and a text laid into a list. Cited by the writers here and by whoever writes with
-- them, the sheet first. Definitions only. Assumes nothing.
use Rattle.std.specs.Prelude.{List, [], ◌∷◌, ◌++◌, ℕ, suc, ◌+◌, ◌-◌, ◌/◌, ◌%◌, ◌^◌, min, eqb, ℤ, pos, negsuc, length, drop}
use Rattle.std.proofs.lemmas.List.Edits.{sets}
use Rattle.lists.specs.Tab.{tab, first, turns}

-- how many decimal digits n has, for an n below 10^20
unfoldable pub digit_count_value : ℕ → ℕ
digit_count_value n = first (λ k. eqb (n / 10 ^ k) 0) 1 19

-- the digit at place i of k, the first being the highest
abbrev pub digit_at_value : ℕ → ℕ → ℕ → ℕ
digit_at_value n k i = 48 + n / 10 ^ (k - 1 - i) % 10

-- a number in decimal
unfoldable pub decimal : ℕ → List ℕ
decimal n = tab 0 (digit_count_value n) (digit_at_value n (digit_count_value n))

-- a number with its sign: a minus where it is below 0
unfoldable pub signed : ℤ → List ℕ
signed (pos n) = decimal n
signed (negsuc n) = 45 ∷ decimal (suc n)

-- a key and its number
unfoldable pub field_text : List ℕ → ℕ → List ℕ
field_text key n = key ++ decimal n

-- the same as a line, a newline after it
unfoldable pub line_text : List ℕ → ℕ → List ℕ
line_text key n = field_text key n ++ (10 ∷ [])

-- the pieces 0, 1, .. one after the other, n of them
abbrev pub joined : {A : Type 0} → (ℕ → List A) → ℕ → List A
joined piece n = turns (λ t j. t ++ piece j) [] n

-- `old` with the text written over its beginning; the slots past the text unchanged
unfoldable pub over : {A : Type 0} → List A → List A → List A
over text old = text ++ drop (length text) old

-- `old` with the text stored element by element from place `at` on; what falls past the end is dropped
unfoldable pub laid : {A : Type 0} → List A → ℕ → List A → List A
laid old at text = sets old at text

-- the place n bytes past `at`; places end at 2^64 - 1, which no list reaches
unfoldable pub reached : ℕ → ℕ → ℕ
reached at n = min (at + n) (2 ^ 64 - 1)
