-- The fixed byte strings of a story: its keys and the three words of the clip. Cited by the story's text. Definitions only. Assumes nothing.
use Rattle.std.specs.Prelude.{List, [], ◌∷◌, ℕ}

-- line=
abbrev pub key_line : List ℕ
key_line = 108 ∷ 105 ∷ 110 ∷ 101 ∷ 61 ∷ []

-- total=
abbrev pub key_total : List ℕ
key_total = 116 ∷ 111 ∷ 116 ∷ 97 ∷ 108 ∷ 61 ∷ []

-- half=
abbrev pub key_half : List ℕ
key_half = 104 ∷ 97 ∷ 108 ∷ 102 ∷ 61 ∷ []

-- shifted=
abbrev pub key_shifted : List ℕ
key_shifted = 115 ∷ 104 ∷ 105 ∷ 102 ∷ 116 ∷ 101 ∷ 100 ∷ 61 ∷ []

-- clip=
abbrev pub key_clip : List ℕ
key_clip = 99 ∷ 108 ∷ 105 ∷ 112 ∷ 61 ∷ []

-- final=
abbrev pub key_final : List ℕ
key_final = 102 ∷ 105 ∷ 110 ∷ 97 ∷ 108 ∷ 61 ∷ []

-- low, high, none
abbrev pub word_low : List ℕ
word_low = 108 ∷ 111 ∷ 119 ∷ []

abbrev pub word_high : List ℕ
word_high = 104 ∷ 105 ∷ 103 ∷ 104 ∷ []

abbrev pub word_none : List ℕ
word_none = 110 ∷ 111 ∷ 110 ∷ 101 ∷ []
