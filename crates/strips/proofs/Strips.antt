-- A strip is a frame of its own: its sample at a line and column is the frame's, so each window's total is the same (`value_of`), and so is the output. That the pass takes the strip
-- follows from its taking the range: the set is the same, and the strip has as many samples as its lines and columns ask. Assumes nothing.
use mathlib.Core.Path.{◌≡◌, refl, sym, ap, subst, ◌∙◌}
use mathlib.Core.Bool.{false}
use mathlib.Core.List.{List}
use Prim.Native.Nat.{ℕ, ◌+◌, ◌*◌, ◌/◌, ◌%◌, ◌≤◌, ◌<◌}
use native.Mathlib.Nat.{zero-add, mod-lt, div-lt_iff_lt-mul}
use native.Mathlib.Omega.{arith}
use lib.Arith.{digits_lt}
use lib.IntN.{pos}
use lib.ListN.{length, get_or}
use borrow.Author.Tests.{le-ltb, eq-eqb}
use Rattle.lists.specs.Ranges.{outside, bad_sides_value}
use Rattle.lists.specs.Tab.{grid}
use Rattle.lists.proofs.BoolLaws.{or_left}
use Rattle.lists.proofs.TabLaws.{length_tab, get_d_tab, grid_at, tab_ext}
use Rattle.integers.specs.Sums.{shifted, clipped}
use Rattle.integers.proofs.Sums.{total_ext}
use Rattle.windows.specs.Set.{Stored, windows, start, size, weight, sample}
use Rattle.vertical.specs.Passed.{number_of}
use Rattle.vertical.specs.Frame.{frame, output, bad_size, bad_area}
use Rattle.vertical.specs.U16.{value_at, passed_u16}
use Rattle.vertical.proofs.Answers.{tests_u16, Shaped}
use Rattle.vertical.proofs.Columns.{some_column}
use Rattle.vertical_u8.specs.U8.{passed_u8}
use Rattle.promises.proofs.Accepted.{passed_done}
use Rattle.promises.proofs.DoneU8.{tests_u8}
use Rattle.promises.proofs.FlatFrame.{fits, fits_u8, written, written_u8_fact}
use Rattle.strips.specs.Strips.{strip, StripU16, StripU8}

module _ (s : Stored) (src : List ℕ) (row first count : ℕ) where
  abbrev cell : ℕ → ℕ → ℕ
  cell i j = get_or src (i * row + (first + j)) 0

  -- a line and column of the strip, in the frame
  sample_of : (line j : ℕ) → line < s.set.layout.lines → j < count → frame 0 (strip s src row first count) count line j ≡ frame 0 src row line (first + j)
  sample_of line j hl hj =
      get_d_tab 0 (s.set.layout.lines * count) (grid count cell) (line * count + j) 0 (digits_lt hl hj)
      ∙ ap (grid count cell) (zero-add (line * count + j)) ∙ grid_at count cell line j hj

  module _ (room : ℕ) (some : 1 ≤ count) (shaped : Shaped s.set (length src) row first count room) where
    -- a window at a column of the strip, for samples up to M
    value_of : (M i j : ℕ) → i < windows s.set.layout → j < count
        → value_at M s (frame 0 (strip s src row first count) count) i (0 + j) ≡ value_at M s (frame 0 src row) i (first + j)
    value_of M i j hi hj =
        ap (λ t. clipped M (shifted s.precision t))
        (total_ext (weight s.set (pos 0) i) (weight s.set (pos 0) i)
        (sample s.set.layout (frame 0 (strip s src row first count) count) i (0 + j)) (sample s.set.layout (frame 0 src row) i (first + j))
        (size s.set.layout i) (λ k l. refl)
        (λ k l. rw zero-add (sample_of (start s.set.layout i + k) j (omega (arith, shaped.set.ends i hi)) hj)))

    same_output : (M : ℕ) → output (value_at M s (frame 0 (strip s src row first count) count)) (windows s.set.layout) 0 count ≡ output (value_at M s (frame 0 src row)) (windows s.set.layout) first count
    same_output M =
        tab_ext 0 (windows s.set.layout * count) (grid count (λ i j. value_at M s (frame 0 (strip s src row first count) count) i (0 + j)))
        (grid count (λ i j. value_at M s (frame 0 src row) i (first + j)))
        (λ k h.
        let b = some_column (windows s.set.layout) count k h in
        subst (λ (m : ℕ). grid count (λ i j. value_at M s (frame 0 (strip s src row first count) count) i (0 + j)) m ≡ grid count (λ i j. value_at M s (frame 0 src row) i (first + j)) m)
        (sym (zero-add k)) (value_of M (k / count) (k % count) ((div-lt_iff_lt-mul b).1 h) (mod-lt k b)))

    size_fits : bad_size s.set.layout.lines (windows s.set.layout) row ≡ false → bad_size s.set.layout.lines (windows s.set.layout) count ≡ false
    size_fits h =
        rw (
          or_left (bad_sides_value s.set.layout.lines (windows s.set.layout)) (outside 1 32768 row) h,
          le-ltb count 1 some,
          le-ltb 32768 count (omega (arith, shaped.fit, shaped.narrow.most)),
        )

    area_fits : bad_area s.set.layout.lines (windows s.set.layout) (length (strip s src row first count)) count 0 count room ≡ false
    area_fits =
        rw (
          eq-eqb (length (strip s src row first count)) (s.set.layout.lines * count) (length_tab 0 (s.set.layout.lines * count) (grid count cell)),
          le-ltb count (0 + count) (omega arith),
          eq-eqb room (windows s.set.layout * count) shaped.rooms,
        )

pub strip_u16 : StripU16
unfolding passed_u16
strip_u16 s src row first count list some none =
    let shaped = fits s (length src) row first count (length list) none in
    let t = tests_u16 s (length src) row first count (length list) (passed_done (passed_u16 s (length src) row first count (length list)) none) in
    let taken : number_of (passed_u16 s (length (strip s src row first count)) count 0 count (length list)) ≡ 0 =
    rw (size_fits s src row first count (length list) some shaped t.size, t.stored, area_fits s src row first count (length list) some shaped) in
    (taken, written s (strip s src row first count) count 0 count list taken ∙ same_output s src row first count (length list) some shaped 65535 ∙ sym (written s src row first count list none))

pub strip_u8 : StripU8
unfolding passed_u8
strip_u8 s src row first count list some none =
    let shaped = fits_u8 s (length src) row first count (length list) none in
    let t = tests_u8 s (length src) row first count (length list) (passed_done (passed_u8 s (length src) row first count (length list)) none) in
    let taken : number_of (passed_u8 s (length (strip s src row first count)) count 0 count (length list)) ≡ 0 =
    rw (size_fits s src row first count (length list) some shaped t.tests.size, t.tests.stored, area_fits s src row first count (length list) some shaped, t.light) in
    (taken, written_u8_fact s (strip s src row first count) count 0 count list taken ∙ same_output s src row first count (length list) some shaped 255 ∙ sym (written_u8_fact s src row first count list none))
