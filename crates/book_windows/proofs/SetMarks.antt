-- The windows of the set that windows' lines say are the lines' own. Cited by the laws of a sheet's report. Assumes nothing.
use mathlib.Core.Path.{◌≡◌, sym, ap, ◌∙◌}
use mathlib.Core.List.{List}
use Prim.Native.Nat.{ℕ, ◌+◌, ◌<◌}
use native.Mathlib.Nat.{zero-add}
use native.Mathlib.Omega.{arith}
use lib.IntN.{pos}
use lib.ListN.{length}
use Rattle.lists.specs.Tab.{tab}
use Rattle.lists.proofs.TabLaws.{tab_ext}
use Rattle.windows.specs.Set.{Stored, size, weight}
use Rattle.scan.specs.Forms.{RunGood}
use Rattle.sheet_scan.specs.Lines.{Row, window_line}
use Rattle.sheet_scan.specs.Rows.{size_at, slot_at, set_of_rows}
use Rattle.sheet_scan.proofs.SetLaws.{rows_say}
use Rattle.book_numbers.specs.Marks.{mark_of, marks_of}
use Rattle.book_numbers.proofs.InUse.{mark_ext, mark_is}
use Rattle.book_windows.specs.Rows.{row_mark, row_marks}

module _ (lines window limit precision : ℕ) (rows : List Row) (good : RunGood (window_line lines window limit) 0 (length rows) rows) where
  abbrev s : Stored
  s = set_of_rows lines window precision rows

  pub marks_are : marks_of s ≡ row_marks precision rows
  marks_are =
      let says = rows_say lines window limit precision rows good in
      ap (λ (n : ℕ). tab 0 n (mark_of s)) (sym says.count) ∙ tab_ext 0 (length rows) (mark_of s) (row_mark precision rows) (λ i l. same (0 + i) (rw zero-add l))
    where
      same : (i : ℕ) → i < length rows → mark_of s i ≡ row_mark precision rows i
      same i l =
          let says = rows_say lines window limit precision rows good in
          let e = says.sizes i l in
          mark_is s i ∙ mark_ext precision (size s.set.layout i) (size_at rows i) (weight s.set (pos 0) i) (slot_at rows i) e (λ k m. says.weights i k l (omega arith))
