-- The windows of a sheet counted beside their lines, one a turn. Cited by `count_windows`. Assumes nothing.
use mathlib.Core.Path.{◌≡◌, refl, sym, ap, ◌∙◌}
use mathlib.Core.Bool.{Bool}
use mathlib.Core.List.{List, [], ◌∷◌, ◌++◌}
use Prim.Native.Nat.{ℕ, suc, ◌+◌, ◌^◌, ◌≤◌, ◌<◌}
use native.Mathlib.Nat.{zero-add}
use native.Mathlib.Omega.{arith}
use lib.IntN.{ℤ}
use lib.ListN.{length, get_or}
use Rattle.lists.specs.Tab.{tab}
use Rattle.lists.proofs.TabLaws.{length_tab, tab_add}
use Rattle.orders.specs.Negative.{some_negative_value}
use Rattle.windows.specs.Set.{excess}
use Rattle.scan.specs.Form.{Found}
use Rattle.scan.specs.Forms.{run}
use Rattle.scan.proofs.PieceLaws.{place_at}
use Rattle.scan.proofs.RunText.{run_long}
use Rattle.sheet_scan.specs.Lines.{Row, weight_item, open_line, window_line, window_lines}
use Rattle.sheet_scan.specs.Rows.{no_row, slot_at, size_at, excess_at}
use Rattle.sheet_scan.specs.Whole.{There, Whatever, slot_of}
use Rattle.excess_scan.proofs.AlongLaws.{along_none}
use Rattle.excess_scan.proofs.LineLaws.{Lined, own, lined_more}
use Rattle.book_numbers.specs.declared.Report.{Report}
use Rattle.book_numbers.specs.Marks.{Mark, mark, numbers_of}
use Rattle.book_numbers.specs.Joins.{join_of}
use Rattle.book_numbers.proofs.JoinLaws.{join_numbers}
use Rattle.book_windows.specs.Rows.{row_mark, row_marks}

module _ (lines window limit outs precision : ℕ) (text : List ℕ) (mid : ℕ) where
  -- i windows are counted; the next line is at p
  pub record Counted (r : Report) (p i : ℕ) : Type 0 where
    pub lined : Lined lines window limit outs text mid p i
    pub each : (rows : List Row) (next : ℕ) → Found (window_lines lines window limit outs) text mid rows next → r ≡ numbers_of 0 (tab 0 i (row_mark precision rows)) 0 0

  pub counted_none : mid ≤ length text → Counted (numbers_of 0 [] 0 0) mid 0
  counted_none l = record { lined = along_none (window_line lines window limit) text outs mid l; each = λ rows next f. refl }

  module _ (small : lines < 2 ^ 32) (few : outs ≤ 8192) {r now : Report} {p i start size from : ℕ} {e : ℤ} {b : Bool} (there : There (window_lines lines window limit outs) text mid) (g : Counted r p i) (l : i < outs) (opened : Found (open_line lines window i) text p (start, size) from) {after : ℕ} (worked : Whatever (run (weight_item limit size) 0 size) text from (λ vs next. (e ≡ excess precision (slot_of vs) size) × (after ≡ next))) (looked : Whatever (run (weight_item limit size) 0 size) text from (λ vs next. b ≡ some_negative_value (slot_of vs) size)) (is : now ≡ join_of r (numbers_of 0 (mark precision e b ∷ []) 0 0)) where
    mark_is : (rows : List Row) (next : ℕ) → Found (window_lines lines window limit outs) text mid rows next → mark precision e b ≡ row_mark precision rows i
    mark_is rows next f =
        let o = own lines window limit outs text mid small g.lined l opened rows next f in
        let vs = (get_or rows i no_row).weights in
        let to = place_at (window_line lines window limit) mid rows (suc i) in
        let e-is : e ≡ excess_at precision rows i = (worked vs to o.2).0 ∙ ap (excess precision (slot_at rows i)) (sym o.1) in
        let b-is : b ≡ some_negative_value (slot_at rows i) (size_at rows i) = looked vs to o.2 ∙ ap (some_negative_value (slot_at rows i)) (sym o.1) in
        λ k. mark precision (e-is k) (b-is k)

    pub counted_more : Counted now after (i + 1)
    counted_more = record {
      lined = lined_more lines window limit outs text mid small g.lined l opened there (λ vs n f. (worked vs n f).1);
      each = λ rows next f.
          let marks = row_mark precision rows in
          let long = length_tab 0 i marks in
          is ∙ ap (λ (x : Report). join_of x (numbers_of 0 (mark precision e b ∷ []) 0 0)) (g.each rows next f)
          ∙ join_numbers 0 0 (tab 0 i marks) (mark precision e b ∷ []) 0 0 0 (omega arith) (omega arith) (omega arith)
          ∙ ap (λ (m : Mark). numbers_of 0 (tab 0 i marks ++ m ∷ []) 0 0) (mark_is rows next f ∙ ap marks (sym (zero-add i)))
          ∙ ap (λ (l : List Mark). numbers_of 0 l 0 0) (sym (tab_add 0 i 1 marks));
    }

  pub counted_all : {r : Report} {p i : ℕ} → Counted r p i → outs ≤ i → (rows : List Row) (next : ℕ) → Found (window_lines lines window limit outs) text mid rows next → r ≡ numbers_of 0 (row_marks precision rows) 0 0
  counted_all {r} {p} {i} g h rows next f =
      let few = g.lined.few in
      let all : i ≡ length rows = let long = run_long (window_line lines window limit) 0 outs rows f.good in omega arith in
      g.each rows next f ∙ ap (λ (n : ℕ). numbers_of 0 (tab 0 n (row_mark precision rows)) 0 0) all
