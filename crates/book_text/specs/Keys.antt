-- The fixed byte strings of a report. Cited by the report's text. Definitions only. Assumes nothing.
use Rattle.std.specs.Prelude.{List, [], ◌∷◌, ℕ}

-- sheets=
abbrev pub key_sheets : List ℕ
key_sheets = 115 ∷ 104 ∷ 101 ∷ 101 ∷ 116 ∷ 115 ∷ 61 ∷ []

-- windows=
abbrev pub key_windows : List ℕ
key_windows = 119 ∷ 105 ∷ 110 ∷ 100 ∷ 111 ∷ 119 ∷ 115 ∷ 61 ∷ []

-- least=
abbrev pub key_least : List ℕ
key_least = 108 ∷ 101 ∷ 97 ∷ 115 ∷ 116 ∷ 61 ∷ []

-- most=
abbrev pub key_most : List ℕ
key_most = 109 ∷ 111 ∷ 115 ∷ 116 ∷ 61 ∷ []

-- notflat=
abbrev pub key_not_flat : List ℕ
key_not_flat = 110 ∷ 111 ∷ 116 ∷ 102 ∷ 108 ∷ 97 ∷ 116 ∷ 61 ∷ []

-- negative=
abbrev pub key_negative : List ℕ
key_negative = 110 ∷ 101 ∷ 103 ∷ 97 ∷ 116 ∷ 105 ∷ 118 ∷ 101 ∷ 61 ∷ []

-- stopped=
abbrev pub key_stopped : List ℕ
key_stopped = 115 ∷ 116 ∷ 111 ∷ 112 ∷ 112 ∷ 101 ∷ 100 ∷ 61 ∷ []
