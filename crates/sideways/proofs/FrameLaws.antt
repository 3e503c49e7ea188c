-- Lists that are given by row and column, over any element type: what stands where, lists with the same cells, and runs of rows. Cited by the laws of the exchange, by the
-- sideways pass and by the promises. Assumes nothing.
use mathlib.Core.Path.{◌≡◌, sym, ap, ◌∙◌}
use mathlib.Core.List.{List}
use Prim.Native.Nat.{ℕ, ◌+◌, ◌-◌, ◌*◌, ◌/◌, ◌%◌, ◌≤◌, ◌<◌}
use native.Mathlib.Nat.{zero-add, add-zero, mod-lt, div-lt_iff_lt-mul, div-add-mod', mul-add-div_right, mul-add-mod_self_right}
use native.Mathlib.Omega.{arith}
use lib.Arith.{digits_lt}
use lib.ListN.{length, get_or, take, drop}
use lib.Seq.{take_at, drop_at}
use Rattle.lists.specs.Tab.{tab, grid}
use Rattle.lists.proofs.TabLaws.{length_tab, get_d_tab, tab_ext, tab_add, tab_shift, grid_at, tab_get_d}
use Rattle.vertical.proofs.Columns.{some_column}

module _ {A : Type 0} where
  -- what stands at row j and column k
  pub frame_at : (d : A) (n w : ℕ) (cell : ℕ → ℕ → A) (j k : ℕ) → j < n → k < w → get_or (tab 0 (n * w) (grid w cell)) (j * w + k) d ≡ cell j k
  frame_at d n w cell j k hj hk =
      get_d_tab 0 (n * w) (grid w cell) (j * w + k) d (digits_lt hj hk) ∙ ap (grid w cell) (zero-add (j * w + k)) ∙ grid_at w cell j k hk

  -- a list of n x w samples whose cells are those of another
  pub frame_ext : (n w : ℕ) (f g : ℕ → ℕ → A) → ((j k : ℕ) → j < n → k < w → f j k ≡ g j k) → tab 0 (n * w) (grid w f) ≡ tab 0 (n * w) (grid w g)
  frame_ext n w f g h =
      tab_ext 0 (n * w) (grid w f) (grid w g)
      (λ z l. let some = some_column n w z l in rw zero-add (h (z / w) (z % w) ((div-lt_iff_lt-mul some).1 l) (mod-lt z some)))

  -- the rows from a on
  pub frame_shift : (m all w a n : ℕ) → m ≡ a * w → all ≡ n * w → (cell : ℕ → ℕ → A) → tab 0 all (λ k. grid w cell (m + k)) ≡ tab 0 (n * w) (grid w (λ i j. cell (a + i) j))
  frame_shift m all w a n em en cell =
      rw (em, en)
      (tab_ext 0 (n * w) (λ k. grid w cell (a * w + k)) (grid w (λ i j. cell (a + i) j))
      (λ z h. let some = some_column n w z h in rw (zero-add z, mul-add-div_right some a z, mul-add-mod_self_right a w z)))

  -- a run of a list that is given by index
  pub tab_cut : (m n all : ℕ) (f : ℕ → A) → m + n ≤ all → take n (drop m (tab 0 all f)) ≡ tab 0 n (λ k. f (m + k))
  tab_cut m n all f h =
      let r = all - (m + n) in
      let e : all ≡ m + (n + r) = omega arith in
      ap (λ (t : ℕ). take n (drop m (tab 0 t f))) e
      ∙ ap (λ (l : List A). take n (drop m l)) (tab_add 0 m (n + r) f)
      ∙ ap (take n) (drop_at (tab 0 m f) (tab (0 + m) (n + r) f) m (length_tab 0 m f))
      ∙ ap (take n) (tab_add (0 + m) n r f)
      ∙ take_at (tab (0 + m) n f) (tab (0 + m + n) r f) n (length_tab (0 + m) n f)
      ∙ ap (λ (t : ℕ). tab t n f) (zero-add m ∙ sym (add-zero m))
      ∙ tab_shift m 0 n f

  -- a list is the frame of its own rows
  pub frame_whole : (d : A) (src : List A) (rows w : ℕ) → length src ≡ rows * w → tab 0 (rows * w) (grid w (λ y c. get_or src (y * w + c) d)) ≡ src
  frame_whole d src rows w long =
      ap (λ (n : ℕ). tab 0 n (grid w (λ y c. get_or src (y * w + c) d))) (sym long)
      ∙ tab_ext 0 (length src) (grid w (λ y c. get_or src (y * w + c) d)) (λ z. get_or src z d) (λ z h. rw (div-add-mod' (0 + z) w))
      ∙ tab_get_d src d
