-- Document 02's empty report, computed: the seven lines of the report of no text are the paper's, byte by byte; 65 bytes of room are enough, and 64 are not. A report with
-- other numbers too. Cited by nothing: it shows that the definition is the paper's. Assumes nothing.
use Rattle.std.specs.Prelude.{Ok, Err}
use mathlib.Core.Path.{◌≡◌, refl}
use mathlib.Core.List.{List, [], ◌∷◌, ◌++◌}
use Prim.Native.Nat.{ℕ}
use lib.IntN.{pos, negsuc}
use Rattle.text.specs.Text.{digit_count_value, decimal, signed, field_text, line_text}
use Rattle.signed_lines.specs.Lines.{number_text}
use Rattle.refusal.specs.declared.Refusal.TheVariants.{NoRoom}
use Rattle.book_numbers.specs.declared.Report.{Report}
use Rattle.book_numbers.specs.Marks.{numbers_of}
use Rattle.book_text.specs.Text.{sheets_text, report_text, answer_of}

-- the paper's lines
abbrev paper : List ℕ
paper =
    (115 ∷ 104 ∷ 101 ∷ 101 ∷ 116 ∷ 115 ∷ 61 ∷ 48 ∷ 10 ∷ [])
    ++ (119 ∷ 105 ∷ 110 ∷ 100 ∷ 111 ∷ 119 ∷ 115 ∷ 61 ∷ 48 ∷ 10 ∷ [])
    ++ (108 ∷ 101 ∷ 97 ∷ 115 ∷ 116 ∷ 61 ∷ 48 ∷ 10 ∷ [])
    ++ (109 ∷ 111 ∷ 115 ∷ 116 ∷ 61 ∷ 48 ∷ 10 ∷ [])
    ++ (110 ∷ 111 ∷ 116 ∷ 102 ∷ 108 ∷ 97 ∷ 116 ∷ 61 ∷ 48 ∷ 10 ∷ [])
    ++ (110 ∷ 101 ∷ 103 ∷ 97 ∷ 116 ∷ 105 ∷ 118 ∷ 101 ∷ 61 ∷ 48 ∷ 10 ∷ [])
    ++ (115 ∷ 116 ∷ 111 ∷ 112 ∷ 112 ∷ 101 ∷ 100 ∷ 61 ∷ 48 ∷ 10 ∷ [])

pub empty_report : report_text (numbers_of 0 [] 0 0) ≡ paper
unfolding report_text sheets_text number_text signed field_text line_text decimal digit_count_value
empty_report = refl

pub empty_answers : (answer_of (numbers_of 0 [] 0 0) 65 ≡ Ok 65) × (answer_of (numbers_of 0 [] 0 0) 64 ≡ Err NoRoom)
unfolding report_text sheets_text number_text signed field_text line_text decimal digit_count_value
empty_answers = (refl, refl)

-- two sheets with three windows, and a bad one after them
abbrev other : Report
other = record { sheets = 2; windows = 3; least = negsuc 18; most = pos 7; notflat = 2; negative = 1; stopped = 13; byte = 250 }

pub other_report :
    report_text other ≡
    (115 ∷ 104 ∷ 101 ∷ 101 ∷ 116 ∷ 115 ∷ 61 ∷ 50 ∷ 10 ∷ [])
    ++ (119 ∷ 105 ∷ 110 ∷ 100 ∷ 111 ∷ 119 ∷ 115 ∷ 61 ∷ 51 ∷ 10 ∷ [])
    ++ (108 ∷ 101 ∷ 97 ∷ 115 ∷ 116 ∷ 61 ∷ 45 ∷ 49 ∷ 57 ∷ 10 ∷ [])
    ++ (109 ∷ 111 ∷ 115 ∷ 116 ∷ 61 ∷ 55 ∷ 10 ∷ [])
    ++ (110 ∷ 111 ∷ 116 ∷ 102 ∷ 108 ∷ 97 ∷ 116 ∷ 61 ∷ 50 ∷ 10 ∷ [])
    ++ (110 ∷ 101 ∷ 103 ∷ 97 ∷ 116 ∷ 105 ∷ 118 ∷ 101 ∷ 61 ∷ 49 ∷ 10 ∷ [])
    ++ (115 ∷ 116 ∷ 111 ∷ 112 ∷ 112 ∷ 101 ∷ 100 ∷ 61 ∷ 49 ∷ 51 ∷ 10 ∷ [])
unfolding report_text sheets_text number_text signed field_text line_text decimal digit_count_value
other_report = refl
