-- An accepted set as rows, and back. Cited by the laws of whole sheets. Assumes nothing.
use mathlib.Core.Path.{◌≡◌, refl, sym, ap, ◌∙◌, subst}
use mathlib.Core.Bool.{Bool, true, false}
use Prim.Native.Nat.{ℕ, ◌+◌, ◌*◌, ◌/◌, ◌%◌, ◌≤◌, ◌<◌}
use native.Mathlib.Nat.{zero-add, div-add-mod, mul_comm, mod-lt}
use native.Mathlib.Omega.{arith}
use lib.Dec.{ltb}
use lib.IntN.{ℤ, pos}
use lib.ListN.{length, get_or, get_or-eq_default}
use borrow.Author.Tests.{ltb-true, ltb-false}
use Rattle.lists.specs.Tab.{tab, grid}
use Rattle.lists.proofs.TabLaws.{length_tab, get_d_tab, tab_get_d, tab_ext}
use Rattle.windows.specs.Fit.{Fits}
use Rattle.windows.specs.Set.{Stored, layout_of, set_of, stored_of, windows, size, weight, excess, excess_of}
use Rattle.windows.specs.Store.{largest_precision}
use Rattle.lists.proofs.RangeLaws.{InRange}
use Rattle.excesses.proofs.SameExcess.{excess_ext}
use Rattle.excesses.proofs.StoredLaws.{stored_fits, stored_precise, excesses_right}
use Rattle.scan.specs.Number.{Inside}
use Rattle.scan.specs.Forms.{RunGood}
use Rattle.scan.proofs.RunText.{run_all}
use Rattle.sheet_scan.specs.Language.{store_named_value, limit_of_value, Accepted, Blank}
use Rattle.sheet_scan.specs.Lines.{Row, weight_item, window_line}
use Rattle.sheet_scan.specs.Rows.{no_row, start_at, size_at, slot_at, excess_at, excesses_of, set_of_rows}
use Rattle.sheet_scan.proofs.LineText.{Says}
use Rattle.sheet_scan.proofs.SetLaws.{row_at, rows_of}

module _ (wide : Bool) (bits : ℕ) (s : Stored) (a : Accepted wide bits s) where
  pub fit : Fits s.set.layout (length s.set.weights)
  fit = stored_fits s (store_named_value bits) a.fits a.sides

  pub precise : InRange 4 (largest_precision (store_named_value bits)) s.precision
  precise = stored_precise s (store_named_value bits) a.fits

  pub rows_count : length (rows_of s) ≡ windows s.set.layout
  rows_count = length_tab 0 (windows s.set.layout) (row_at s)

  row_is : (i : ℕ) → i < windows s.set.layout → get_or (rows_of s) i no_row ≡ row_at s i
  row_is i l = get_d_tab 0 (windows s.set.layout) (row_at s) i no_row l ∙ ap (row_at s) (zero-add i)

  slot_in : (i k : ℕ) → k < size s.set.layout i → get_or (tab 0 (size s.set.layout i) (weight s.set (pos 0) i)) k (pos 0) ≡ weight s.set (pos 0) i k
  slot_in i k l = get_d_tab 0 (size s.set.layout i) (weight s.set (pos 0) i) k (pos 0) l ∙ ap (weight s.set (pos 0) i) (zero-add k)

  pub set_says : Says s (rows_of s)
  set_says = record {
    count = rows_count;
    starts = λ i l. let m = below i l in sym (ap {B = ℕ} (λ (r : Row). r.start) (row_is i m));
    sizes = λ i l. let m = below i l in sym (ap {B = ℕ} (λ (r : Row). r.size) (row_is i m));
    weights = λ i k l u.
        let m = below i l in
        let e = ap {B = ℕ} (λ (r : Row). r.size) (row_is i m) in
        sym (ap {B = ℤ} (λ (r : Row). get_or r.weights k (pos 0)) (row_is i m) ∙ slot_in i k (omega arith));
    long = λ i l. let m = below i l in subst (λ (r : Row). length r.weights ≡ r.size) (sym (row_is i m)) (length_tab 0 (size s.set.layout i) (weight s.set (pos 0) i));
    some = λ i l. let m = below i l in subst (λ (r : Row). 1 ≤ r.size) (sym (row_is i m)) (fit.some i m);
  }
    where
      below : (i : ℕ) → i < length (rows_of s) → i < windows s.set.layout
      below i l = let e = rows_count in omega arith

  row_good : (i : ℕ) → i < windows s.set.layout → (window_line s.set.layout.lines s.set.layout.window_size_value (limit_of_value bits) i).Good (row_at s i)
  row_good i l = (
    fit.some i l,
    fit.small i l,
    fit.ends i l,
    run_all (weight_item (limit_of_value bits) (size s.set.layout i)) 0 (size s.set.layout i) (tab 0 (size s.set.layout i) (weight s.set (pos 0) i)) (pos 0) (length_tab 0 (size s.set.layout i) (weight s.set (pos 0) i))
        (λ k m. subst (λ (v : ℤ). Inside (limit_of_value bits) v) (sym (slot_in i k m)) (a.inside i k l m)),
  )

  pub set_good : RunGood (window_line s.set.layout.lines s.set.layout.window_size_value (limit_of_value bits)) 0 (windows s.set.layout) (rows_of s)
  set_good =
      run_all (window_line s.set.layout.lines s.set.layout.window_size_value (limit_of_value bits)) 0 (windows s.set.layout) (rows_of s) no_row rows_count
      (λ i l. subst (λ (r : Row). (window_line s.set.layout.lines s.set.layout.window_size_value (limit_of_value bits) (0 + i)).Good r) (sym (row_is i l)) (subst (λ (j : ℕ). (window_line s.set.layout.lines s.set.layout.window_size_value (limit_of_value bits) j).Good (row_at s i)) (sym (zero-add i)) (row_good i l)))

  -- the set's own slots
  cell : Blank s → (i k : ℕ) → i < windows s.set.layout → k < s.set.layout.window_size_value → slot_at (rows_of s) i k ≡ weight s.set (pos 0) i k
  cell blank i k l m = ap {B = ℤ} (λ (r : Row). get_or r.weights k (pos 0)) (row_is i l) ∙ by_size (ltb k (size s.set.layout i)) refl
    where
      by_size : (b : Bool) → ltb k (size s.set.layout i) ≡ b → get_or (tab 0 (size s.set.layout i) (weight s.set (pos 0) i)) k (pos 0) ≡ weight s.set (pos 0) i k
      by_size true h = slot_in i k (ltb-true k (size s.set.layout i) h)
      by_size false h =
          let past = ltb-false k (size s.set.layout i) h in
          let long = length_tab 0 (size s.set.layout i) (weight s.set (pos 0) i) in
          get_or-eq_default (tab 0 (size s.set.layout i) (weight s.set (pos 0) i)) (pos 0) (omega arith) ∙ sym (blank i k l past m)

  starts_back : tab 0 (length (rows_of s)) (start_at (rows_of s)) ≡ s.set.layout.starts
  starts_back =
      ap (λ (n : ℕ). tab 0 n (start_at (rows_of s))) rows_count
      ∙ tab_ext 0 (windows s.set.layout) (start_at (rows_of s)) (λ i. get_or s.set.layout.starts i 0) (λ i l. rw zero-add (ap {B = ℕ} (λ (r : Row). r.start) (row_is i l))) ∙ tab_get_d s.set.layout.starts 0

  sizes_back : tab 0 (length (rows_of s)) (size_at (rows_of s)) ≡ s.set.layout.sizes
  sizes_back =
      ap (λ (n : ℕ). tab 0 n (size_at (rows_of s))) rows_count
      ∙ tab_ext 0 (windows s.set.layout) (size_at (rows_of s)) (λ i. get_or s.set.layout.sizes i 0) (λ i l. rw zero-add (ap {B = ℕ} (λ (r : Row). r.size) (row_is i l)))
      ∙ ap (λ (n : ℕ). tab 0 n (λ i. get_or s.set.layout.sizes i 0)) fit.pairs ∙ tab_get_d s.set.layout.sizes 0

  weights_back : Blank s → tab 0 (length (rows_of s) * s.set.layout.window_size_value) (grid s.set.layout.window_size_value (slot_at (rows_of s))) ≡ s.set.weights
  weights_back blank =
      ap (λ (n : ℕ). tab 0 (n * s.set.layout.window_size_value) (grid s.set.layout.window_size_value (slot_at (rows_of s)))) rows_count
      ∙ tab_ext 0 (windows s.set.layout * s.set.layout.window_size_value) (grid s.set.layout.window_size_value (slot_at (rows_of s))) (λ n. get_or s.set.weights n (pos 0)) (λ n l. rw zero-add (at n l))
      ∙ ap (λ (n : ℕ). tab 0 n (λ i. get_or s.set.weights i (pos 0))) (sym fit.full) ∙ tab_get_d s.set.weights (pos 0)
    where
      at : (n : ℕ) → n < windows s.set.layout * s.set.layout.window_size_value → grid s.set.layout.window_size_value (slot_at (rows_of s)) n ≡ get_or s.set.weights n (pos 0)
      at n l =
          let wide = fit.some_slot in
          let row : n / s.set.layout.window_size_value < windows s.set.layout = (native.Mathlib.Nat.div-lt_iff_lt-mul wide).1 l in
          let col : n % s.set.layout.window_size_value < s.set.layout.window_size_value = mod-lt n wide in
          let whole : n / s.set.layout.window_size_value * s.set.layout.window_size_value + n % s.set.layout.window_size_value ≡ n = ap (λ (m : ℕ). m + n % s.set.layout.window_size_value) (mul_comm (n / s.set.layout.window_size_value) s.set.layout.window_size_value) ∙ div-add-mod n s.set.layout.window_size_value in
          cell blank (n / s.set.layout.window_size_value) (n % s.set.layout.window_size_value) row col ∙ ap (λ (m : ℕ). get_or s.set.weights m (pos 0)) whole

  -- the rows' excesses are the set's own
  pub excesses_back : excesses_of s.precision (rows_of s) ≡ s.excesses
  excesses_back =
      ap (λ (n : ℕ). tab 0 n (excess_at s.precision (rows_of s))) rows_count
      ∙ tab_ext 0 (windows s.set.layout) (excess_at s.precision (rows_of s)) (excess_of s) (λ i l. rw zero-add (at i l)) ∙ sym (excesses_right s (store_named_value bits) a.fits)
    where
      at : (i : ℕ) → i < windows s.set.layout → excess_at s.precision (rows_of s) i ≡ excess_of s i
      at i l =
          let e : size_at (rows_of s) i ≡ size s.set.layout i = ap {B = ℕ} (λ (r : Row). r.size) (row_is i l) in
          ap (excess s.precision (slot_at (rows_of s) i)) e
          ∙ excess_ext (slot_at (rows_of s) i) (weight s.set (pos 0) i) s.precision (size s.set.layout i) (λ k m. ap {B = ℤ} (λ (r : Row). get_or r.weights k (pos 0)) (row_is i l) ∙ slot_in i k m)

  -- a set whose slots past the windows' sizes are 0 is the set of its rows
  pub set_back : Blank s → set_of_rows s.set.layout.lines s.set.layout.window_size_value s.precision (rows_of s) ≡ s
  set_back blank = λ i. stored_of (set_of (layout_of s.set.layout.lines s.set.layout.window_size_value (starts_back i) (sizes_back i)) (weights_back blank i)) s.precision (excesses_back i)
