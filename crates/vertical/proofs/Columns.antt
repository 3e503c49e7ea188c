-- A pass over a range of columns gives those columns of the pass over the whole row, since each value is that of its own column alone. `columns_cut` says it of
-- the values, over any element type; `columns_cut_u16` and `columns_cut_f32` of the answers and the lists. Cited by the promises. Assumes nothing.
use Rattle.std.specs.Prelude.{Ok}
use mathlib.Core.Path.{◌≡◌, sym, ap, ◌∙◌}
use mathlib.Core.Bool.{false, not}
use mathlib.Core.List.{List}
use Prim.Native.Nat.{ℕ, zero, suc, ◌+◌, ◌*◌, ◌/◌, ◌%◌, ◌≤◌, ◌<◌}
use native.Mathlib.Nat.{zero-add, mul-zero, mod-lt, div-lt_iff_lt-mul}
use native.Mathlib.Omega.{arith}
use lib.Arith.{digits_lt}
use lib.Ieee.{Float, nan}
use lib.ListN.{length, get_or}
use Rattle.lists.specs.Tab.{grid, any}
use Rattle.lists.proofs.AnyLaws.{any_mono, any_part}
use Rattle.lists.proofs.TabLaws.{tab_ext, get_d_tab, grid_at}
use Rattle.floats.specs.Doubles.{is_finite}
use Rattle.windows.specs.Set.{Set, Stored, windows, size, sample}
use Rattle.vertical.specs.Frame.{frame, output, columns}
use Rattle.vertical.specs.U16.{value_at, passed_u16, written_u16}
use Rattle.vertical.specs.F32.{value_f32, infinities, bad_line, bad_samples, passed_f32, written_f32}
use Rattle.vertical.proofs.Answers.{same_frame, reshaped, tests_u16, tests_f32}

pub some_column : (windows count k : ℕ) → k < windows * count → 0 < count
some_column windows zero k h = absurd (omega (arith, mul-zero windows))
some_column windows (suc count) k h = omega arith

module _ {A : Type 0} (value : ℕ → ℕ → A) (d : A) (windows row first count : ℕ) (fit : first + count ≤ row) where
  -- window i and column j of the range, in the whole row's list
  slot : (i j : ℕ) → i < windows → j < count → get_or (output value windows 0 row) (i * row + (first + j)) d ≡ value i (first + j)
  slot i j hi hj =
      let cell : ℕ → ℕ → A = λ i j. value i (0 + j) in
      let l : first + j < row = omega arith in
      get_d_tab 0 (windows * row) (grid row cell) (i * row + (first + j)) d (digits_lt hi l)
      ∙ ap (grid row cell) (zero-add (i * row + (first + j)))
      ∙ grid_at row cell i (first + j) l ∙ ap (value i) (zero-add (first + j))

  pub columns_cut : output value windows first count ≡ columns d row windows first count (output value windows 0 row)
  columns_cut =
      tab_ext 0 (windows * count) (grid count (λ i j. value i (first + j))) (grid count (λ i j. get_or (output value windows 0 row) (i * row + (first + j)) d))
      (λ k h. let b = some_column windows count k h in rw zero-add (sym (slot (k / count) (k % count) ((div-lt_iff_lt-mul b).1 h) (mod-lt k b))))

module _ (s : Stored) (src : List ℕ) (row : ℕ) (whole : List ℕ) (done : passed_u16 s (length src) row 0 row (length whole) ≡ Ok tt)
    (first count : ℕ) (list : List ℕ) (fit : first + count ≤ row) (rooms : length list ≡ windows s.set.layout * count) where
  range_done_u16 : passed_u16 s (length src) row first count (length list) ≡ Ok tt
  unfolding passed_u16
  range_done_u16 =
      let t = tests_u16 s (length src) row 0 row (length whole) done in
      rw (t.size, t.stored, same_frame s.set (length src) row 0 row (length whole) first count (length list) fit rooms t.area)

  -- where the whole frame is not refused, a range of columns is not, and its output is those columns of the whole
  pub columns_cut_u16 : (passed_u16 s (length src) row first count (length list) ≡ Ok tt) × (written_u16 s src row first count list ≡ columns 0 row (windows s.set.layout) first count (written_u16 s src row 0 row whole))
  unfolding written_u16
  columns_cut_u16 = (range_done_u16, rw (range_done_u16, done) (columns_cut (value_at 65535 s (frame 0 src row)) 0 (windows s.set.layout) row first count fit))

-- samples that are good over the whole row are good over the columns of a range
samples : (s : Set Float) (src : List Float) (row first count : ℕ) → first + count ≤ row → bad_samples s src row 0 row ≡ false → bad_samples s src row first count ≡ false
samples s src row first count fit =
    any_mono (λ i. any (size s.layout i) (bad_line s src row 0 row i)) (λ i. any (size s.layout i) (bad_line s src row first count i)) (windows s.layout)
    (λ i l. any_mono (bad_line s src row 0 row i) (bad_line s src row first count i) (size s.layout i)
    (λ k l h. any_part (λ j. not (is_finite (sample s.layout (frame nan src row) i j k))) row first count fit (simp zero-add at h)))

module _ (s : Set Float) (src : List Float) (row : ℕ) (whole : List Float) {n : ℕ} (done : passed_f32 s src row 0 row (length whole) ≡ Ok n)
    (first count : ℕ) (list : List Float) (fit : first + count ≤ row) (rooms : length list ≡ windows s.layout * count) where
  range_done_f32 : passed_f32 s src row first count (length list) ≡ Ok (infinities (output (value_f32 s (frame nan src row)) (windows s.layout) first count))
  unfolding passed_f32
  range_done_f32 =
      let t = tests_f32 s src row 0 row (length whole) done in
      rw (t.size, reshaped s (length src) row 0 row (length whole) t.shape first count (length list) fit rooms, t.weights, samples s src row first count fit t.samples)

  pub columns_cut_f32 : (passed_f32 s src row first count (length list) ≡ Ok (infinities (output (value_f32 s (frame nan src row)) (windows s.layout) first count))) × (written_f32 s src row first count list ≡ columns nan row (windows s.layout) first count (written_f32 s src row 0 row whole))
  unfolding written_f32
  columns_cut_f32 = (range_done_f32, rw (range_done_f32, done) (columns_cut (value_f32 s (frame nan src row)) nan (windows s.layout) row first count fit))
