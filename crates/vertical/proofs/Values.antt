-- What a worker over integers writes, said with slices, is the value that the passes define, said with lines and columns, for samples up to any M. Cited by the u16
-- and the u8 pass. Assumes nothing.
use mathlib.Core.Path.{◌≡◌, refl, ap, ◌∙◌}
use mathlib.Core.List.{List}
use Prim.Native.Nat.{ℕ, ◌+◌, ◌*◌, ◌/◌, ◌%◌}
use native.Mathlib.Nat.{add-mul}
use native.Mathlib.Omega.{arith}
use lib.IntN.{ℤ, pos}
use lib.ListN.{get_or, take, drop}
use lib.Seq.{get_or-take, get_or-drop}
use Rattle.lists.specs.Tab.{tab, grid}
use Rattle.lists.proofs.TabLaws.{tab_ext}
use Rattle.integers.specs.Sums.{clipped, shifted}
use Rattle.integers.proofs.Sums.{total_ext}
use Rattle.windows.specs.Set.{Stored, windows, size, start, weight, sample}
use Rattle.vertical.specs.Column.{weight_at, sample_at, row_value, window_value}
use Rattle.vertical.specs.Frame.{frame, output}
use Rattle.vertical.specs.U16.{value_at}

module _ (M : ℕ) (s : Stored) (src : List ℕ) (row first : ℕ) where
  abbrev Cell : ℕ → ℕ → ℕ
  Cell = window_value M src row first s.set.layout.starts s.set.layout.sizes s.set.layout.window_size_value s.set.weights s.precision

  pub value_is : (i j : ℕ) → Cell i j ≡ value_at M s (frame 0 src row) i (first + j)
  value_is i j =
      let slots : List ℤ = take (size s.set.layout i) (drop (i * s.set.layout.window_size_value) s.set.weights) in
      ap (λ (z : ℤ). clipped M (shifted s.precision z))
      (total_ext (weight_at slots) (weight s.set (pos 0) i) (sample_at src (start s.set.layout i * row + first + j) row) (sample s.set.layout (frame 0 src row) i (first + j)) (size s.set.layout i)
      (λ k l. get_or-take (size s.set.layout i) (drop (i * s.set.layout.window_size_value) s.set.weights) k (pos 0) l ∙ get_or-drop (i * s.set.layout.window_size_value) s.set.weights k (pos 0))
      (λ k l. ap (λ (n : ℕ). get_or src n 0) (omega (arith, add-mul (start s.set.layout i) k row))))

  -- a list of all windows' rows is the pass's output
  pub output_of_cells : (count : ℕ) {new : List ℕ} → new ≡ tab 0 (windows s.set.layout * count) (grid count Cell) → new ≡ output (value_at M s (frame 0 src row)) (windows s.set.layout) first count
  output_of_cells count cells =
      cells
      ∙ tab_ext 0 (windows s.set.layout * count) (grid count Cell) (grid count (λ i j. value_at M s (frame 0 src row) i (first + j))) (λ k l. value_is ((0 + k) / count) ((0 + k) % count))

-- the row that a worker writes for one window, with what a turn read in the place of the window's start and size
pub row_is : (M p row first count : ℕ) (weights : List ℤ) (src : List ℕ) (a size start : ℕ) {m d n y : ℕ} {new : List ℕ} → m ≡ count → d ≡ size → n ≡ size → y ≡ start → new ≡ tab 0 m (row_value M p (take d (drop a weights)) src (y * row + first) row n) → new ≡ tab 0 count (row_value M p (take size (drop a weights)) src (start * row + first) row size)
row_is M p row first count weights src a size start em ed en ey e = e ∙ rw (em, ed, en, ey) refl
