-- The length of a report's text, and the two ways of its writer. Cited by `write_report`. Assumes nothing.
use Rattle.std.specs.Prelude.{Result, Ok, Err}
use mathlib.Core.Path.{◌≡◌, refl, ap, ◌∙◌}
use mathlib.Core.List.{List}
use Prim.Native.Nat.{ℕ, ◌≤◌, ◌<◌}
use native.Mathlib.Omega.{arith}
use lib.ListN.{length, length-append}
use borrow.Author.Tests.{lt-ltb, le-ltb}
use Rattle.text.specs.Text.{laid, reached}
use Rattle.text.proofs.TextLaws.{reached_whole, line_small, laid_over}
use Rattle.signed_lines.proofs.LineLaws.{number_small}
use Rattle.refusal.specs.declared.Refusal.TheVariants.{NoRoom}
use Rattle.refusal.specs.declared.Refusal.{Refusal}
use Rattle.book_numbers.specs.declared.Report.{Report}
use Rattle.book_text.specs.Keys.{key_sheets, key_windows, key_least, key_most, key_not_flat, key_negative, key_stopped}
use Rattle.book_text.specs.Text.{sheets_text, report_text, answer_of, written_of}

module _ (r : Report) where
  -- 256 bytes hold the text of every report
  pub text_small : length (report_text r) ≤ 256
  unfolding report_text sheets_text
  text_small =
      simp length-append
      (omega (arith, line_small key_sheets r.sheets, line_small key_windows r.windows, number_small key_least r.least, number_small key_most r.most, line_small key_not_flat r.notflat, line_small key_negative r.negative, line_small key_stopped r.stopped))

  pub counted : reached 0 (length (report_text r)) ≡ length (report_text r)
  counted = reached_whole (length (report_text r)) (let l = text_small in omega arith)

  module _ (old : List ℕ) where
    -- the answer and the list at exit are the contract's
    abbrev pub Meets : Result ℕ Refusal → List ℕ → Type 0
    Meets w new = (w ≡ answer_of r (length old)) × (new ≡ written_of r old)

    pub room_refused : length old < length (report_text r) → Meets (Err NoRoom) old
    room_refused h = rw (lt-ltb (length old) (length (report_text r)) h) (refl, refl)

    pub all_written : {n : ℕ} {new : List ℕ} → length (report_text r) ≤ length old → n ≡ length (report_text r) → new ≡ laid old 0 (report_text r) → Meets (Ok n) new
    all_written h e-n e = rw (le-ltb (length old) (length (report_text r)) h) (ap Ok e-n, e ∙ laid_over old (report_text r) h)
