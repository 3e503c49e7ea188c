-- A report as text, key=value lines in document 02's order, and the writer's answer. Cited by `write_report`. Definitions only. Assumes nothing.
use Rattle.std.specs.Prelude.{cond, List, ◌++◌, ℕ, length, Result, Ok, Err}
use Rattle.text.specs.Text.{line_text, over}
use Rattle.signed_lines.specs.Lines.{number_text}
use Rattle.refusal.specs.declared.Refusal.TheVariants.{NoRoom}
use Rattle.sheet.specs.Answer.{no_room}
use Rattle.refusal.specs.declared.Refusal.{Refusal}
use Rattle.book_numbers.specs.declared.Report.{Report}
use Rattle.book_text.specs.Keys.{key_sheets, key_windows, key_least, key_most, key_not_flat, key_negative, key_stopped}

-- the first four lines: how many sheets and windows, and the range of the excesses
unfoldable pub sheets_text : Report → List ℕ
sheets_text r = line_text key_sheets r.sheets ++ line_text key_windows r.windows ++ number_text key_least r.least ++ number_text key_most r.most

-- all seven. The byte is not among them
unfoldable pub report_text : Report → List ℕ
report_text r = sheets_text r ++ line_text key_not_flat r.notflat ++ line_text key_negative r.negative ++ line_text key_stopped r.stopped

-- the answer, with room for so many bytes: No. 11, or how many were written
abbrev pub answer_of : Report → ℕ → Result ℕ Refusal
answer_of r room = cond (no_room room (length (report_text r))) (Err NoRoom) (Ok (length (report_text r)))

-- the lent list afterwards: the text over its beginning, unchanged where refused
abbrev pub written_of : Report → List ℕ → List ℕ
written_of r old = cond (no_room (length old) (length (report_text r))) old (over (report_text r) old)
