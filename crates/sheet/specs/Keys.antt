-- The fixed byte strings of a sheet: its keys and the filters' names. Cited by the sheet's text. Definitions only. Assumes nothing.
use Rattle.std.specs.Prelude.{List, [], ◌∷◌, ℕ}
use Rattle.filters.specs.declared.FilterType.{FilterType}
use Rattle.filters.specs.declared.FilterType.TheVariants.{Box, Bilinear, CatmullRom, Mitchell}

-- kind=
abbrev pub key_kind : List ℕ
key_kind = 107 ∷ 105 ∷ 110 ∷ 100 ∷ 61 ∷ []

-- in=
abbrev pub key_in : List ℕ
key_in = 105 ∷ 110 ∷ 61 ∷ []

-- out=
abbrev pub key_out : List ℕ
key_out = 111 ∷ 117 ∷ 116 ∷ 61 ∷ []

-- window=
abbrev pub key_window : List ℕ
key_window = 119 ∷ 105 ∷ 110 ∷ 100 ∷ 111 ∷ 119 ∷ 61 ∷ []

-- store=
abbrev pub key_store : List ℕ
key_store = 115 ∷ 116 ∷ 111 ∷ 114 ∷ 101 ∷ 61 ∷ []

-- precision=
abbrev pub key_precision : List ℕ
key_precision = 112 ∷ 114 ∷ 101 ∷ 99 ∷ 105 ∷ 115 ∷ 105 ∷ 111 ∷ 110 ∷ 61 ∷ []

-- w, before a window's number
abbrev pub key_line : List ℕ
key_line = 119 ∷ []

-- excess=
abbrev pub key_excess : List ℕ
key_excess = 101 ∷ 120 ∷ 99 ∷ 101 ∷ 115 ∷ 115 ∷ 61 ∷ []

abbrev pub equals : List ℕ
equals = 61 ∷ []

abbrev pub comma : List ℕ
comma = 44 ∷ []

abbrev pub colon : List ℕ
colon = 58 ∷ []

abbrev pub newline : List ℕ
newline = 10 ∷ []

-- box, bilinear, catmullrom, mitchell
unfoldable pub kind_name : FilterType → List ℕ
kind_name Box = 98 ∷ 111 ∷ 120 ∷ []
kind_name Bilinear = 98 ∷ 105 ∷ 108 ∷ 105 ∷ 110 ∷ 101 ∷ 97 ∷ 114 ∷ []
kind_name CatmullRom = 99 ∷ 97 ∷ 116 ∷ 109 ∷ 117 ∷ 108 ∷ 108 ∷ 114 ∷ 111 ∷ 109 ∷ []
kind_name Mitchell = 109 ∷ 105 ∷ 116 ∷ 99 ∷ 104 ∷ 101 ∷ 108 ∷ 108 ∷ []
