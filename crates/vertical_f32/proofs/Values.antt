-- What `rows` writes, said with slices, is the value that `vertical` defines, said with lines and columns. Cited by `Judged`. Assumes nothing.
use mathlib.Core.Path.{◌≡◌, refl, ap, ◌∙◌}
use mathlib.Core.List.{List}
use Prim.Native.Nat.{ℕ, zero, suc, ◌+◌, ◌*◌, ◌<◌}
use native.Mathlib.Nat.{add-mul}
use native.Mathlib.Omega.{arith}
use lib.ListN.{get_or, take, drop}
use lib.Seq.{get_or-take, get_or-drop}
use lib.Ieee.{Float, nan, binary64, add, mul, of_bits}
use Rattle.lists.specs.Tab.{turns}
use Rattle.numbers.specs.Whole.{narrow}
use Rattle.windows.specs.Set.{Set, size, start, weight, sample}
use Rattle.vertical.specs.Frame.{frame}
use Rattle.vertical.specs.F32.{value_f32}
use Rattle.row_f32.specs.Column.{column_sum, window_value}

-- the sum over a slice is the sum of the terms, where weights and samples agree
sum_is : (ws src : List Float) (at row : ℕ) (w s : ℕ → Float) (n : ℕ) → ((k : ℕ) → k < n → get_or ws k nan ≡ w k) → ((k : ℕ) → k < n → get_or src (at + k * row) nan ≡ s k) → column_sum ws src at row n ≡ turns (λ t k. add binary64 t (mul binary64 (s k) (w k))) (of_bits binary64 0) n
unfolding column_sum
sum_is ws src at row w s zero hw hs = refl
sum_is ws src at row w s (suc n) hw hs =
    rw (sum_is ws src at row w s n (λ k l. hw k (omega arith)) (λ k l. hs k (omega arith)), hw n (omega arith), hs n (omega arith))

pub value_is : (s : Set Float) (src : List Float) (row first i j : ℕ) → window_value src row first s.layout.starts s.layout.sizes s.layout.window_size_value s.weights i j ≡ value_f32 s (frame nan src row) i (first + j)
value_is s src row first i j =
    ap narrow
    (sum_is (take (size s.layout i) (drop (i * s.layout.window_size_value) s.weights)) src (start s.layout i * row + first + j) row (weight s nan i) (sample s.layout (frame nan src row) i (first + j)) (size s.layout i)
    (λ k l. get_or-take (size s.layout i) (drop (i * s.layout.window_size_value) s.weights) k nan l ∙ get_or-drop (i * s.layout.window_size_value) s.weights k nan)
    (λ k l. ap (λ (n : ℕ). get_or src n nan) (omega (arith, add-mul (start s.layout i) k row))))
