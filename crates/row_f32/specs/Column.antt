-- One column of one window, as the inner functions see it: weights in a slice, samples of the frame `row` apart. Cited by their contracts only; the pass's
-- own contract cites `vertical`. Definitions only. Assumes nothing.
use Rattle.std.specs.Prelude.{◌≡◌, List, ℕ, zero, suc, ◌+◌, ◌*◌, ◌^◌, ◌<◌, ◌≤◌, length, get_or, take, drop, Float}
use Rattle.std.specs.Float.{binary64, nan}
use Rattle.std.specs.Float.Ieee.{add, mul, of_bits}
use Rattle.floats.specs.Within.{AtMost}
use Rattle.numbers.specs.Whole.{narrow}

-- from +0, sample x weight added in line order: the samples at `at`, `at + row`, `at + 2 row`, ..
unfoldable pub column_sum : List Float → List Float → ℕ → ℕ → ℕ → Float
column_sum ws src at row zero = of_bits binary64 0
column_sum ws src at row (suc n) = add binary64 (column_sum ws src at row n) (mul binary64 (get_or src (at + n * row) nan) (get_or ws n nan))

abbrev pub column_value : List Float → List Float → ℕ → ℕ → ℕ → Float
column_value ws src at row n = narrow (column_sum ws src at row n)

-- window i at column j of the range, its weights taken from the set's slots
abbrev pub window_value : List Float → ℕ → ℕ → List ℕ → List ℕ → ℕ → List Float → ℕ → ℕ → Float
window_value src row first starts sizes window weights i j =
    column_value (take (get_or sizes i 0) (drop (i * window) weights)) src (get_or starts i 0 * row + first + j) row (get_or sizes i 0)

-- a window's weights over `cols` columns from `at` on: all are there, weights are at most 2^64 and samples at most 2^128 in size
pub record Summable (ws src : List Float) (at row cols : ℕ) : Type 0 where
  pub few : length ws ≤ 8192
  pub rows : row ≤ 32768
  pub there : (k : ℕ) → k < length ws → at + k * row + cols ≤ length src
  pub heavy : (k : ℕ) → k < length ws → AtMost (get_or ws k nan) (2 ^ 64)
  pub light : (k t : ℕ) → k < length ws → t < cols → AtMost (get_or src (at + k * row + t) nan) (2 ^ 128)

-- sixteen columns side by side from `at` on: their sums of the window's first k lines
abbrev pub Sums16 : List Float → List Float → List Float → ℕ → ℕ → ℕ → Type 0
Sums16 ss ws src at row k = (length ss ≡ 16) × ((t : ℕ) → t < 16 → get_or ss t nan ≡ column_sum ws src (at + t) row k)
