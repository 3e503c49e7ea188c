-- A sheet is its head lines and its windows' lines: the set that lines say is accepted, and an accepted set's text is its lines'. Cited by the laws of whole
-- sheets. Assumes nothing.
use mathlib.Core.Path.{◌≡◌, refl, sym, ap, ◌∙◌, subst}
use mathlib.Core.Bool.{Bool, false}
use mathlib.Core.List.{List}
use Prim.Native.Nat.{ℕ, ◌+◌, ◌*◌, ◌≤◌, ◌<◌}
use native.Mathlib.Nat.{zero-add}
use native.Mathlib.Omega.{arith}
use lib.IntN.{ℤ, pos}
use lib.ListN.{length, get_or, get_or-eq_default}
use borrow.Author.Tests.{le-ltb, eq-eqb}
use Rattle.lists.specs.Tab.{tab, grid, any}
use Rattle.lists.proofs.TabLaws.{length_tab, get_d_tab, grid_at, row_end}
use Rattle.lists.proofs.AnyLaws.{none_any}
use Rattle.lists.specs.Ranges.{outside}
use Rattle.windows.specs.Fit.{bad_counts, bad_window, bad_at, bad_excesses}
use Rattle.windows.specs.Set.{Stored, windows, start, size, weight, excess, excess_of}
use Rattle.excesses.proofs.SameExcess.{excess_ext}
use Rattle.excesses.proofs.RightLaws.{right_excesses}
use Rattle.windows.specs.Store.{largest_precision}
use Rattle.scan.specs.Number.{Inside}
use Rattle.scan.specs.Forms.{RunGood}
use Rattle.scan.proofs.RunText.{run_long, run_each}
use Rattle.sheet_scan.specs.Language.{Taken, store_named_value, limit_of_value, Accepted, Blank}
use Rattle.sheet_scan.specs.Lines.{Row, weight_item, window_line, Between}
use Rattle.sheet_scan.specs.Rows.{no_row, start_at, size_at, slot_at, excess_at, set_of_rows}
use Rattle.sheet_scan.proofs.LineText.{Says}

-- numbers in their ranges pass the judges
inside_range : (low high n : ℕ) → low ≤ n → n ≤ high → outside low high n ≡ false
inside_range low high n l h = rw (le-ltb n low l, le-ltb high n h)

module _ (lines window limit precision : ℕ) (rows : List Row) (good : RunGood (window_line lines window limit) 0 (length rows) rows) where
  abbrev s : Stored
  s = set_of_rows lines window precision rows

  each : (i : ℕ) → i < length rows → (window_line lines window limit (0 + i)).Good (get_or rows i no_row)
  each i l = run_each (window_line lines window limit) 0 (length rows) rows no_row good i l

  start_is : (i : ℕ) → i < length rows → get_or s.set.layout.starts i 0 ≡ start_at rows i
  start_is i l = get_d_tab 0 (length rows) (start_at rows) i 0 l ∙ ap (start_at rows) (zero-add i)

  size_is : (i : ℕ) → i < length rows → get_or s.set.layout.sizes i 0 ≡ size_at rows i
  size_is i l = get_d_tab 0 (length rows) (size_at rows) i 0 l ∙ ap (size_at rows) (zero-add i)

  slot_is : (i k : ℕ) → i < length rows → k < window → get_or s.set.weights (i * window + k) (pos 0) ≡ slot_at rows i k
  slot_is i k l m =
      let within : i * window + k < length rows * window = let e = row_end i (length rows) window l in omega arith in
      get_d_tab 0 (length rows * window) (grid window (slot_at rows)) (i * window + k) (pos 0) within
      ∙ ap (grid window (slot_at rows)) (zero-add (i * window + k)) ∙ grid_at window (slot_at rows) i k m

  pub rows_say : Says s rows
  rows_say = record {
    count = sym (length_tab 0 (length rows) (start_at rows));
    starts = start_is;
    sizes = size_is;
    weights = λ i k l m. slot_is i k l (let high = (each i l).1 in omega arith);
    long = λ i l. run_long (weight_item limit (size_at rows i)) 0 (size_at rows i) (get_or rows i no_row).weights (each i l).3;
    some = λ i l. (each i l).0;
  }

  -- the slots past a row's weights are 0
  pub rows_blank : Blank s
  rows_blank i k l past m =
      let count = length_tab 0 (length rows) (start_at rows) in
      let l2 : i < length rows = omega arith in
      let e = size_is i l2 in
      let long = rows_say.long i l2 in
      slot_is i k l2 m ∙ get_or-eq_default (get_or rows i no_row).weights (pos 0) (omega arith)

  window_fits : (i : ℕ) → i < length rows → bad_window lines window (get_or s.set.layout.starts i 0) (get_or s.set.layout.sizes i 0) ≡ false
  window_fits i l =
      let g = each i l in
      rw (start_is i l, size_is i l, inside_range 1 window (size_at rows i) g.0 g.1, le-ltb lines (start_at rows i + size_at rows i) g.2)

  all_fit : any (length s.set.layout.starts) (bad_at s.set.layout) ≡ false
  all_fit = none_any (bad_at s.set.layout) (length s.set.layout.starts) (λ i l. window_fits i (let count = length_tab 0 (length rows) (start_at rows) in omega arith))

  counts_fit : 1 ≤ window → window ≤ 32769 → bad_counts window (length s.set.weights) (length s.set.layout.starts) (length s.set.layout.sizes) ≡ false
  counts_fit l h =
      rw (length_tab 0 (length rows) (start_at rows), length_tab 0 (length rows) (size_at rows), length_tab 0 (length rows * window) (grid window (slot_at rows)), inside_range 1 32769 window l h, eq-eqb (length rows) (length rows) refl, eq-eqb (length rows * window) (length rows * window) refl)

  -- each excess is its window's
  excess_is : (i : ℕ) → i < length rows → excess_of s i ≡ get_or s.excesses i (pos 0)
  excess_is i l =
      ap (excess precision (weight s.set (pos 0) i)) (size_is i l)
      ∙ excess_ext (weight s.set (pos 0) i) (slot_at rows i) precision (size_at rows i) (λ k m. slot_is i k l (let high = (each i l).1 in omega arith))
      ∙ sym (get_d_tab 0 (length rows) (excess_at precision rows) i (pos 0) l ∙ ap (excess_at precision rows) (zero-add i))

  excesses_fit : bad_excesses s ≡ false
  excesses_fit =
      let count = length_tab 0 (length rows) (start_at rows) in
      right_excesses s (length_tab 0 (length rows) (excess_at precision rows) ∙ sym count) (λ i l. excess_is i (omega arith))

  pub rows_accepted : (wide : Bool) (bits : ℕ) → Taken wide bits → limit ≡ limit_of_value bits → Between 1 8192 lines → Between 1 8192 (length rows) → Between 1 32769 window → Between 4 (largest_precision (store_named_value bits)) precision → Accepted wide bits s
  rows_accepted wide bits is_IsStore e-limit in_lines in-outs in_window in-precision = record {
    taken = is_IsStore;
    sides = rw (length_tab 0 (length rows) (start_at rows), inside_range 1 8192 lines in_lines.0 in_lines.1, inside_range 1 8192 (length rows) in-outs.0 in-outs.1);
    fits = rw (counts_fit in_window.0 in_window.1, all_fit, inside_range 4 (largest_precision (store_named_value bits)) precision in-precision.0 in-precision.1) excesses_fit;
    inside = λ i k l m.
        let count = length_tab 0 (length rows) (start_at rows) in
        let l2 : i < length rows = omega arith in
        let e = size_is i l2 in
        let g = each i l2 in
        let small = g.1 in
        let used = run_each (weight_item limit (size_at rows i)) 0 (size_at rows i) (get_or rows i no_row).weights (pos 0) g.3 k (omega arith) in
        subst (λ (v : ℤ). Inside (limit_of_value bits) v) (sym (slot_is i k l2 (omega arith))) (subst (λ (x : ℕ). Inside x (slot_at rows i k)) e-limit used);
  }

-- an accepted set as rows
abbrev pub row_at : Stored → ℕ → Row
row_at s i = record { start = start s.set.layout i; size = size s.set.layout i; weights = tab 0 (size s.set.layout i) (weight s.set (pos 0) i) }

abbrev pub rows_of : Stored → List Row
rows_of s = tab 0 (windows s.set.layout) (row_at s)
