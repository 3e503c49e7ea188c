-- What a set that fits gives, in plain numbers: the sides, the counts, and each window inside the frame. Cited by the normalisers, the passes, the sheet writer and
-- the promises wherever a judge's answer is taken apart. Assumes nothing.
use mathlib.Core.Path.{◌≡◌}
use mathlib.Core.Bool.{Bool, false, not, ◌||◌}
use Prim.Native.Nat.{ℕ, ◌+◌, ◌*◌, ◌≤◌, ◌<◌}
use native.Mathlib.Omega.{arith}
use lib.Dec.{eqb, ltb}
use lib.ListN.{length}
use borrow.Author.Tests.{ltb-false, eqb-true, not-false}
use Rattle.lists.specs.Ranges.{outside, bad_sides_value}
use Rattle.lists.specs.Tab.{any}
use Rattle.lists.proofs.AnyLaws.{any_none}
use Rattle.lists.proofs.BoolLaws.{or_left, or_right}
use Rattle.lists.proofs.TabLaws.{row_end}
use Rattle.lists.proofs.RangeLaws.{InRange, not_outside, first_side, second_side}
use Rattle.windows.specs.Set.{Layout, layout_of, windows, start, size}
use Rattle.windows.specs.Fit.{bad_counts, bad_at, bad_set, Fits, InSlots}

-- the counts agree
module _ (window_size_value slots starts sizes : ℕ) (h : bad_counts window_size_value slots starts sizes ≡ false) where
  abbrev size_or_pairs : Bool
  size_or_pairs = outside 1 32769 window_size_value || not (eqb starts sizes)

  first : size_or_pairs ≡ false
  first = or_left size_or_pairs (not (eqb slots (starts * window_size_value))) h

  wide : InRange 1 32769 window_size_value
  wide = not_outside 1 32769 window_size_value (or_left (outside 1 32769 window_size_value) (not (eqb starts sizes)) first)

  pub pairs : starts ≡ sizes
  pairs = eqb-true starts sizes (not-false (eqb starts sizes) (or_right (outside 1 32769 window_size_value) (not (eqb starts sizes)) first))

  full : slots ≡ starts * window_size_value
  full = eqb-true slots (starts * window_size_value) (not-false (eqb slots (starts * window_size_value)) (or_right size_or_pairs (not (eqb slots (starts * window_size_value))) h))

module _ (l : Layout) (slots : ℕ) where
  abbrev counts : Bool
  counts = bad_counts l.window_size_value slots (windows l) (length l.sizes)

  -- neither No. 1 nor No. 10 is due
  pub fits : bad_sides_value l.lines (windows l) ≡ false → bad_set l slots ≡ false → Fits l slots
  fits sides h =
      let lists = or_left counts (any (windows l) (bad_at l)) h in
      let good = any_none (bad_at l) (windows l) (or_right counts (any (windows l) (bad_at l)) h) in
      let camera = first_side l.lines (windows l) sides in
      let display = second_side l.lines (windows l) sides in
      let slot = wide l.window_size_value slots (windows l) (length l.sizes) lists in
      let lone : (i : ℕ) → i < windows l → InRange 1 l.window_size_value (size l i) =
      λ i k. not_outside 1 l.window_size_value (size l i) (or_left (outside 1 l.window_size_value (size l i)) (ltb l.lines (start l i + size l i)) (good i k)) in record {
        some_line = camera.least;
        few_lines = camera.most;
        some_window = display.least;
        few_windows = display.most;
        some_slot = slot.least;
        few_slots = slot.most;
        pairs = pairs l.window_size_value slots (windows l) (length l.sizes) lists;
        full = full l.window_size_value slots (windows l) (length l.sizes) lists;
        some = λ i k. (lone i k).least;
        small = λ i k. (lone i k).most;
        ends = λ i k. ltb-false l.lines (start l i + size l i) (or_right (outside 1 l.window_size_value (size l i)) (ltb l.lines (start l i + size l i)) (good i k));
      }

  -- the same of a frame of 8,192 lines, for a function that does not know the count of lines
  pub fits_most : Fits l slots → Fits (layout_of 8192 l.window_size_value l.starts l.sizes) slots
  fits_most f = record {
    some_line = omega arith;
    few_lines = omega arith;
    some_window = f.some_window;
    few_windows = f.few_windows;
    some_slot = f.some_slot;
    few_slots = f.few_slots;
    pairs = f.pairs;
    full = f.full;
    some = f.some;
    small = f.small;
    ends = λ i k. omega (arith, f.ends i k, f.few_lines);
  }

  -- and of windows that are read slot by slot, where there are at least so many slots
  pub in_slots : Fits l slots → (room : ℕ) → slots ≤ room → InSlots l.window_size_value l.sizes room
  in_slots f room more = record {
    many = omega (arith, f.few_windows, f.pairs);
    wide = f.few_slots;
    there = λ i k. let w : i < windows l = omega (arith, f.pairs) in omega (arith, row_end i (windows l) l.window_size_value w, f.small i w, f.full);
    few = λ i k. let w : i < windows l = omega (arith, f.pairs) in omega (arith, f.ends i w, f.few_lines);
  }
