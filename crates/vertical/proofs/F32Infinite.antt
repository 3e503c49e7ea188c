-- Counting the infinite samples of a list: part by part, one sample more, none at all; and of the output of a pass, range by range. Cited by `vertical_f32` and by
-- `F32Counts`. Assumes nothing.
use mathlib.Core.Path.{◌≡◌, refl, sym, ap, ◌∙◌}
use mathlib.Core.Bool.{Bool, false, cond}
use mathlib.Core.List.{List, [], ◌∷◌, ◌++◌}
use Prim.Native.Nat.{ℕ, zero, suc, ◌+◌, ◌*◌, ◌<◌, zero-le}
use native.Mathlib.Nat.{add_assoc, add-zero, zero-add, zero-mul, mul-zero}
use native.Mathlib.Omega.{arith}
use lib.Ieee.{Float, nan}
use lib.ListN.{length, get_or, take}
use Rattle.lists.specs.Tab.{tab, grid}
use Rattle.lists.proofs.TabLaws.{tab_add, tab_ext, tab_row, tab_shift}
use Rattle.numbers.specs.Whole.{is_infinite}
use Rattle.vertical.specs.Frame.{output}
use Rattle.vertical.specs.F32.{infinities}

-- ---- of a list

pub infinities_parts : (xs ys : List Float) → infinities (xs ++ ys) ≡ infinities xs + infinities ys
unfolding infinities
infinities_parts [] ys = sym (zero-add (infinities ys))
infinities_parts (x ∷ xs) ys = rw (infinities_parts xs ys) (sym (add_assoc (cond (is_infinite x) 1 0) (infinities xs) (infinities ys)))

pub infinities_start : (l : List Float) → 0 ≡ infinities (take 0 l)
unfolding infinities
infinities_start l = refl

pub infinities_more : (l : List Float) (k : ℕ) → k < length l → infinities (take (suc k) l) ≡ infinities (take k l) + cond (is_infinite (get_or l k nan)) 1 0
unfolding infinities
infinities_more [] k h = absurd (omega arith)
infinities_more (x ∷ xs) zero h = omega arith
infinities_more (x ∷ xs) (suc k) h = rw (infinities_more xs k (omega arith)) (sym (add_assoc (cond (is_infinite x) 1 0) (infinities (take k xs)) (cond (is_infinite (get_or xs k nan)) 1 0)))

pub infinities_none : (l : List Float) → ((k : ℕ) → k < length l → is_infinite (get_or l k nan) ≡ false) → infinities l ≡ 0
unfolding infinities
infinities_none [] h = refl
infinities_none (x ∷ xs) h = rw (h 0 (omega arith), infinities_none xs (λ k l. h (suc k) (omega arith))) refl

-- ---- of the output of a pass, a cell for each window and column

module _ (value : ℕ → ℕ → Float) where
  row_cut : (i first a b : ℕ) → infinities (tab 0 (a + b) (λ j. value i (first + j))) ≡ infinities (tab 0 a (λ j. value i (first + j))) + infinities (tab 0 b (λ j. value i (first + a + j)))
  row_cut i first a b =
      let f : ℕ → Float = λ j. value i (first + j) in
      ap infinities (tab_add 0 a b f) ∙ infinities_parts (tab 0 a f) (tab (0 + a) b f)
      ∙ ap (λ (l : List Float). infinities (tab 0 a f) + infinities l)
      (ap (λ (k : ℕ). tab k b f) (zero-add a ∙ sym (add-zero a)) ∙ tab_shift a 0 b f
      ∙ tab_ext 0 b (λ j. f (a + j)) (λ j. value i (first + a + j)) (λ k l. ap (value i) (sym (add_assoc first a (0 + k)))))

  -- one window more
  window_more : (windows first count : ℕ) → infinities (output value (suc windows) first count) ≡ infinities (output value windows first count) + infinities (tab 0 count (λ j. value windows (first + j)))
  window_more windows first count =
      let cell : ℕ → ℕ → Float = λ i j. value i (first + j) in
      let e : suc windows * count ≡ windows * count + count = omega arith in
      ap (λ (n : ℕ). infinities (tab 0 n (grid count cell))) e ∙ ap infinities (tab_add 0 (windows * count) count (grid count cell))
      ∙ infinities_parts (tab 0 (windows * count) (grid count cell)) (tab (0 + windows * count) count (grid count cell))
      ∙ ap (λ (l : List Float). infinities (tab 0 (windows * count) (grid count cell)) + infinities l)
      (ap (λ (k : ℕ). tab k count (grid count cell)) (zero-add (windows * count)) ∙ tab_row count cell windows)

  no_window : (first count : ℕ) → infinities (output value 0 first count) ≡ 0
  unfolding infinities
  no_window first count = rw (zero-mul count) refl

  -- no column
  pub no_column : (windows first : ℕ) → infinities (output value windows first 0) ≡ 0
  unfolding infinities
  no_column windows first = rw (mul-zero windows) refl

  -- a range is its first a columns and the b behind them
  pub range_cut : (windows first a b : ℕ) → infinities (output value windows first (a + b)) ≡ infinities (output value windows first a) + infinities (output value windows (first + a) b)
  range_cut zero first a b = rw (no_window first (a + b), no_window first a, no_window (first + a) b) refl
  range_cut (suc windows) first a b =
      let A = infinities (output value windows first a) in
      let B = infinities (output value windows (first + a) b) in
      let C = infinities (tab 0 a (λ j. value windows (first + j))) in
      let D = infinities (tab 0 b (λ j. value windows (first + a + j))) in
      window_more windows first (a + b) ∙ rw (range_cut windows first a b, row_cut windows first a b, window_more windows first a, window_more windows (first + a) b) (exchange A B C D)
    where
      exchange : (a b c d : ℕ) → a + b + (c + d) ≡ a + c + (b + d)
      exchange a b c d = omega arith
