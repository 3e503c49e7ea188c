-- The proofs of `FlatRow` and `FlatFrame`, once over the largest sample, and at 65535 and 255: a pass that did not refuse has all its windows inside the frame, so every sample in use is v, and `flat_unchanged` gives
-- each value of a window that meets the premise; a frame whose rows are flat is flat. Assumes nothing.
use mathlib.Core.Path.{◌≡◌, refl, ap, ◌∙◌}
use mathlib.Core.Bool.{true}
use mathlib.Core.List.{List}
use Prim.Native.Nat.{ℕ, ◌+◌, ◌-◌, ◌*◌, ◌/◌, ◌%◌, ◌^◌, ◌≤◌, ◌<◌}
use native.Mathlib.Nat.{zero-add, mod-lt, div-lt_iff_lt-mul}
use native.Mathlib.Omega.{arith}
use lib.Arith.{digits_lt}
use lib.IntN.{pos}
use lib.ListN.{length, take, drop}
use lib.Seq.{take_at, drop_at}
use borrow.Author.Tests.{ltb-true}
use Rattle.lists.specs.Tab.{tab, grid}
use Rattle.lists.proofs.TabLaws.{length_tab, tab_ext, tab_add, tab_row, row_end}
use Rattle.integers.proofs.Sums.{total_ext}
use Rattle.windows.specs.Set.{Stored, windows, start, size, weight, sample, distance_of}
use Rattle.windows.specs.Store.{store16, store32}
use Rattle.excesses.proofs.StoredLaws.{stored_precise}
use Rattle.vertical.specs.Frame.{frame, output, row_of}
use Rattle.vertical.specs.Passed.{number_of}
use Rattle.vertical.specs.U16.{passed_u16, written_u16, value_at, keeps_flat}
use Rattle.vertical_u8.specs.U8.{passed_u8, written_u8}
use Rattle.vertical.proofs.Answers.{Tests, tests_u16, tests_shaped, Shaped}
use Rattle.vertical.proofs.Columns.{some_column}
use Rattle.promises.specs.FlatFrames.{Flat, FlatRow, FlatFrame, FlatRowU8, FlatFrameU8}
use Rattle.promises.proofs.Accepted.{passed_done}
use Rattle.promises.proofs.DoneU8.{TestsU8, tests_u8}
use Rattle.promises.proofs.Frames.{flat_unchanged}

-- row i of an output is window i at each column
pub row_of_output : {A : Type 0} (at : ℕ → ℕ → A) (n first count i : ℕ) → i < n → row_of count i (output at n first count) ≡ tab 0 count (λ j. at i (first + j))
row_of_output {A} at n first count i h =
    let cell : ℕ → ℕ → A = λ i j. at i (first + j) in
    let rest = n * count - (i * count + count) in
    let e : n * count ≡ i * count + (count + rest) = omega (arith, row_end i n count h) in
    ap (λ m. take count (drop (i * count) (tab 0 m (grid count cell)))) e
    ∙ ap (λ l. take count (drop (i * count) l)) (tab_add 0 (i * count) (count + rest) (grid count cell))
    ∙ ap (take count) (drop_at (tab 0 (i * count) (grid count cell)) (tab (0 + i * count) (count + rest) (grid count cell)) (i * count) (length_tab 0 (i * count) (grid count cell)))
    ∙ ap (take count) (tab_add (0 + i * count) count rest (grid count cell))
    ∙ take_at (tab (0 + i * count) count (grid count cell)) (tab (0 + i * count + count) rest (grid count cell)) count (length_tab (0 + i * count) count (grid count cell))
    ∙ ap (λ m. tab m count (grid count cell)) (zero-add (i * count))
    ∙ tab_row count cell i

-- ---- a pass over integers that did not refuse, with samples up to M
module _ (s : Stored) (samples row first count room : ℕ) (fits : Shaped s.set samples row first count room) where
  -- the sample of line k of window i at column j of the range is there
  pub inside : (i j k : ℕ) → i < windows s.set.layout → j < count → k < size s.set.layout i → (start s.set.layout i + k) * row + (first + j) < samples
  inside i j k hi hj hk = let ends = fits.set.ends i hi in rw fits.whole (digits_lt (omega (arith, ends)) (omega (arith, fits.fit)))

module _ (M : ℕ) (s : Stored) (src : List ℕ) (row first count room : ℕ) (fits : Shaped s.set (length src) row first count room) (some : 1 ≤ s.precision) (v : ℕ) (top : v ≤ M) (flat : Flat v src) where
  abbrev value : ℕ → ℕ → ℕ
  value = value_at M s (frame 0 src row)

  -- a window that meets the premise, at a column of a flat frame
  here : (i j : ℕ) → i < windows s.set.layout → j < count → keeps_flat M s i ≡ true → value i (first + j) ≡ v
  here i j hi hj near =
      let at : (k : ℕ) → k < size s.set.layout i → sample s.set.layout (frame 0 src row) i (first + j) k ≡ v =
      λ k l. flat ((start s.set.layout i + k) * row + (first + j)) (inside s (length src) row first count room fits i j k hi hj l) in
      rw (total_ext (weight s.set (pos 0) i) (weight s.set (pos 0) i) (sample s.set.layout (frame 0 src row) i (first + j)) (λ k. v) (size s.set.layout i) (λ k l. refl) at)
      (flat_unchanged (weight s.set (pos 0) i) (size s.set.layout i) M s.precision v some (ltb-true (2 * M * distance_of s i) (2 ^ s.precision) near) top)

  row_flat : (i : ℕ) → i < windows s.set.layout → keeps_flat M s i ≡ true → {out : List ℕ} → out ≡ output value (windows s.set.layout) first count → row_of count i out ≡ tab 0 count (λ j. v)
  row_flat i hi near e =
      ap (row_of count i) e
      ∙ row_of_output value (windows s.set.layout) first count i hi
      ∙ tab_ext 0 count (λ j. value i (first + j)) (λ j. v) (λ j h. rw zero-add (here i j hi h near))

  -- every row is flat, so the frame is
  frame_flat : ((i : ℕ) → i < windows s.set.layout → keeps_flat M s i ≡ true) → {out : List ℕ} → out ≡ output value (windows s.set.layout) first count → out ≡ tab 0 (windows s.set.layout * count) (λ k. v)
  frame_flat near e =
      e
      ∙ tab_ext 0 (windows s.set.layout * count) (grid count (λ i j. value i (first + j))) (λ k. v)
      (λ k h.
      let some = some_column (windows s.set.layout) count k h in
      let i = (div-lt_iff_lt-mul some).1 h in
      rw zero-add (here (k / count) (k % count) i (mod-lt k some) (near (k / count) i)))

-- ---- the u16 pass
module _ (s : Stored) (samples row first count room : ℕ) (none : number_of (passed_u16 s samples row first count room) ≡ 0) where
  tests : Tests store32 s samples row first count room
  tests = tests_u16 s samples row first count room (passed_done (passed_u16 s samples row first count room) none)

  pub fits : Shaped s.set samples row first count room
  fits = tests_shaped store32 s samples row first count room tests

  pub some_u16 : 1 ≤ s.precision
  some_u16 = omega (arith, stored_precise s store32 tests.stored)

pub written : (s : Stored) (src : List ℕ) (row first count : ℕ) (old : List ℕ) → number_of (passed_u16 s (length src) row first count (length old)) ≡ 0 → written_u16 s src row first count old ≡ output (value_at 65535 s (frame 0 src row)) (windows s.set.layout) first count
unfolding written_u16
written s src row first count old none = rw (passed_done (passed_u16 s (length src) row first count (length old)) none)

pub flat_row : FlatRow
flat_row s src row first count old v none top flat i hi near =
    row_flat 65535 s src row first count (length old) (fits s (length src) row first count (length old) none) (some_u16 s (length src) row first count (length old) none) v top flat i hi near (written s src row first count old none)

pub flat_frame : FlatFrame
flat_frame s src row first count old v none top flat near =
    frame_flat 65535 s src row first count (length old) (fits s (length src) row first count (length old) none) (some_u16 s (length src) row first count (length old) none) v top flat near (written s src row first count old none)

-- ---- the u8 pass
module _ (s : Stored) (samples row first count room : ℕ) (none : number_of (passed_u8 s samples row first count room) ≡ 0) where
  tests_8 : TestsU8 s samples row first count room
  tests_8 = tests_u8 s samples row first count room (passed_done (passed_u8 s samples row first count room) none)

  pub fits_u8 : Shaped s.set samples row first count room
  fits_u8 = tests_shaped store16 s samples row first count room tests_8.tests

  pub some_u8 : 1 ≤ s.precision
  some_u8 = omega (arith, stored_precise s store16 tests_8.tests.stored)

pub written_u8_fact : (s : Stored) (src : List ℕ) (row first count : ℕ) (old : List ℕ) → number_of (passed_u8 s (length src) row first count (length old)) ≡ 0 → written_u8 s src row first count old ≡ output (value_at 255 s (frame 0 src row)) (windows s.set.layout) first count
unfolding written_u8
written_u8_fact s src row first count old none = rw (passed_done (passed_u8 s (length src) row first count (length old)) none)

pub flat_row_u8 : FlatRowU8
flat_row_u8 s src row first count old v none top flat i hi near =
    row_flat 255 s src row first count (length old) (fits_u8 s (length src) row first count (length old) none) (some_u8 s (length src) row first count (length old) none) v top flat i hi near (written_u8_fact s src row first count old none)

pub flat_frame_u8 : FlatFrameU8
flat_frame_u8 s src row first count old v none top flat near =
    frame_flat 255 s src row first count (length old) (fits_u8 s (length src) row first count (length old) none) (some_u8 s (length src) row first count (length old) none) v top flat near (written_u8_fact s src row first count old none)
