-- One sheet: it has a byte for each window and a window at least, and what is found of its lines is its report. Cited by `first_sheet` and by the loop over sheets.
-- Assumes nothing.
use mathlib.Core.Path.{◌≡◌, sym, ap, ◌∙◌, subst}
use mathlib.Core.Bool.{true}
use mathlib.Core.List.{List, [], ◌∷◌, ◌++◌}
use mathlib.Core.Logic.{inl, inr}
use Prim.Native.Nat.{ℕ, suc, ◌-◌, ◌^◌, ◌≤◌, ◌<◌}
use native.Mathlib.Nat.{add-zero}
use native.Mathlib.Omega.{arith}
use lib.ListN.{length, length-append}
use Rattle.lists.proofs.TabLaws.{length_tab}
use Rattle.text.specs.Text.{field_text}
use Rattle.refusal.specs.declared.Refusal.TheVariants.{NotASheet}
use Rattle.refusal.specs.Refusal.{number_of}
use Rattle.windows.specs.Set.{windows}
use Rattle.sheet.specs.Text.{open_text}
use Rattle.std.specs.Prelude.{Ok}
use Rattle.scan.specs.Form.{Form, Found, Stopped}
use Rattle.scan.specs.Forms.{fixed, run_text, RunGood}
use Rattle.scan.proofs.RunText.{run_long}
use Rattle.sheet_scan.specs.declared.Sizes.{Sizes}
use Rattle.sheet_scan.specs.declared.StoreLines.{StoreLines}
use Rattle.sheet_scan.specs.Language.{limit_of_value, Whole, sheets}
use Rattle.sheet_scan.specs.Lines.{Row, size_lines, store_lines, window_line}
use Rattle.sheet_scan.specs.Whole.{lines_of, excess_line}
use Rattle.sheet_scan.proofs.SetLaws.{rows_of}
use Rattle.sheet_scan.proofs.BackLaws.{fit, rows_count}
use Rattle.sheet_scan.proofs.WholeLaws.{whole_of_value, sizes_of, store_of, parts_text, sheet_found}
use Rattle.book_numbers.specs.declared.Report.{Report}
use Rattle.book_numbers.specs.Marks.{Mark, mark_of, marks_of, numbers_of}
use Rattle.book_numbers.specs.Joins.{join_of}
use Rattle.book_numbers.proofs.JoinLaws.{join_numbers}
use Rattle.book_windows.specs.Rows.{row_marks}
use Rattle.book_windows.proofs.SetMarks.{marks_are}
use Rattle.book.specs.Book.{SheetOf, FirstOf}

-- pieces that all have a byte
run_bytes : {A : Type 0} (F : ℕ → Form A) → ((i : ℕ) (a : A) → 1 ≤ length ((F i).text a)) → (i : ℕ) (l : List A) → length l ≤ length (run_text F i l)
run_bytes F some i [] = omega arith
run_bytes F some i (a ∷ l) = omega (arith, some i a, run_bytes F some (suc i) l, length-append ((F i).text a) (run_text F (suc i) l))

-- a window's line begins with a w
line_bytes : (lines window limit i : ℕ) (r : Row) → 1 ≤ length ((window_line lines window limit i).text r)
unfolding open_text field_text
line_bytes lines window limit i r = omega arith

module _ (x : Whole) (good : (sheets true).Good x) where
  pub sheet_windows : length (marks_of x.set) ≤ length ((sheets true).text x)
  sheet_windows =
      let rows = rows_of x.set in
      let F = window_line x.set.set.layout.lines x.set.set.layout.window_size_value (limit_of_value x.bits) in
      let count = length_tab 0 (windows x.set.set.layout) (mark_of x.set) in
      let same = rows_count true x.bits x.set good.0 in
      let bytes = run_bytes F (line_bytes x.set.set.layout.lines x.set.set.layout.window_size_value (limit_of_value x.bits)) 0 rows in
      let head = size_lines.text (sizes_of x) in
      let store = (store_lines true).text (store_of x) in
      let tail = excess_line x.set.precision rows in
      let text = ap length (parts_text true x good.0) in
      omega (arith, length-append head (store ++ (run_text F 0 rows ++ tail)), length-append store (run_text F 0 rows ++ tail), length-append (run_text F 0 rows) tail)

  pub sheet_some : 1 ≤ length (marks_of x.set)
  sheet_some = let f = fit true x.bits x.set good.0 in omega (arith, f.some_window, length_tab 0 (windows x.set.set.layout) (mark_of x.set))

module _ {text : List ℕ} {at : ℕ} where
  -- no sheet is there
  pub first_none : {stop : ℕ} {r : Report} → Stopped (sheets true) text at stop → r ≡ numbers_of 0 [] (number_of NotASheet) (stop - at) → FirstOf text at r
  first_none {stop} s is = inr (stop, s, is)

  -- one is
  pub first_some : {r : Report} → SheetOf text at (Ok r) → FirstOf text at r
  first_some h = inl h

  -- the lines of a sheet are there, one after the other
  pub first_found : {v : Sizes} {w : StoreLines} {rows : List Row} {a b c next : ℕ} {r : Report} → Found size_lines text at v a → Found (store_lines true) text a w b → Found (lines_of v w) text b rows c → Found (fixed (excess_line w.precision rows)) text c tt next → next < 2 ^ 64 → r ≡ join_of (numbers_of 1 [] 0 (next - at)) (numbers_of 0 (row_marks w.precision rows) 0 0) → SheetOf text at (Ok r)
  first_found {v} {w} {rows} {a} {b} {c} {next} {r} f g h x small is =
      let F = window_line v.lines v.window_size (limit_of_value w.bits) in
      let long = run_long F 0 v.windows rows h.good in
      let few = f.good.1.1 in
      let marks = row_marks w.precision rows in
      let count : length marks ≡ length rows = length_tab 0 (length rows) _ in
      let good = subst (λ (n : ℕ). RunGood F 0 n rows) (sym long) h.good in (
        whole_of_value v w rows,
        next,
        sheet_found true f g h x,
        is ∙ join_numbers 1 0 [] marks 0 (next - at) 0 (omega arith) (omega arith) (omega arith)
            ∙ ap (λ (n : ℕ). numbers_of 1 marks 0 n) (add-zero (next - at)) ∙ ap (λ (l : List Mark). numbers_of 1 l 0 (next - at)) (sym (marks_are v.lines v.window_size (limit_of_value w.bits) w.precision rows good)),
      )
